use Rattle.table_volume.proofs.Giving.{on_image}
use Rattle.table_volume.proofs.gives.a_subvolume_is_on_an_image.Goals as goal

pub returns : goal.returns
returns c = on_image
