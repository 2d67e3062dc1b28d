use Rattle.volume_image.proofs.SameItems.{one_extent, covered_is_kept}
use Rattle.volume_image.proofs.laws.items.blocks_have_one_extent.Goals as goal

pub returns : goal.returns
returns c = record { one = one_extent; some = λ sub blocks items are. are.file_blocks; kept = covered_is_kept }
