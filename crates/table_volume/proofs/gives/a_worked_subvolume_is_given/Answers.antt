use Rattle.table_volume.proofs.Giving.{worked_given}
use Rattle.table_volume.proofs.gives.a_worked_subvolume_is_given.Goals as goal

pub returns : goal.returns
returns c = worked_given
