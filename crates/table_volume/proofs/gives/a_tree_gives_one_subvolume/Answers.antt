use Rattle.volume_image.proofs.SameItems.{items_have_one_subvolume}
use Rattle.table_volume.proofs.gives.a_tree_gives_one_subvolume.Goals as goal

pub returns : goal.returns
returns c = λ table tree one two a b. items_have_one_subvolume _ _ one two a.items b.items
