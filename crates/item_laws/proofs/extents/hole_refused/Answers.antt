use Rattle.blk_base.specs.Extents.{Hole}
use Rattle.item_laws.specs.ExtentLaws.{log_extent_from, hole_no_extent}
use Rattle.item_laws.proofs.extents.hole_refused.Goals as goal

pub returns : goal.returns
returns c key bytes len e = hole_no_extent key bytes len (log_extent_from key bytes (Hole len) e)
