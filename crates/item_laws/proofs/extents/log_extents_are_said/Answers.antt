use Rattle.item_laws.specs.ExtentLaws.{log_extent_from, log_extent_to}
use Rattle.item_laws.proofs.extents.log_extents_are_said.Goals as goal

pub returns : goal.returns
returns c key bytes v = (log_extent_from key bytes v, log_extent_to key bytes v)
