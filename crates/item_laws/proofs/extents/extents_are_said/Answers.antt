use Rattle.item_laws.specs.ExtentLaws.{extent_from, extent_to}
use Rattle.item_laws.proofs.extents.extents_are_said.Goals as goal

pub returns : goal.returns
returns c key bytes v = (extent_from key bytes v, extent_to key bytes v)
