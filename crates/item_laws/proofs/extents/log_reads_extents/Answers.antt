use Rattle.item_laws.specs.ExtentLaws.{extent_from, log_extent_to, log_from_extent}
use Rattle.item_laws.proofs.extents.log_reads_extents.Goals as goal

pub returns : goal.returns
returns c key bytes v e = log_extent_to key bytes v (log_from_extent key bytes v (extent_from key bytes v e))
