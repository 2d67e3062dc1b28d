use Rattle.table_volume.proofs.Giving.{readings_join}
use Rattle.table_volume.proofs.gives.readings_join.Goals as goal

pub returns : goal.returns
returns c = readings_join
