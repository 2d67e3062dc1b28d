use Rattle.table_volume.proofs.Giving.{subvolume_taken}
use Rattle.table_volume.proofs.gives.a_subvolume_is_taken.Goals as goal

pub returns : goal.returns
returns c = subvolume_taken
