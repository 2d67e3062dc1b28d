use Rattle.table_volume.proofs.States.{one_sub, one_ino, one_index}
use Rattle.table_volume.proofs.running.a_state_gives_one_subvolume.Goals as goal

pub returns-clause-sub : goal.returns-clause-sub
returns-clause-sub c = one_sub

pub returns-clause-last_ino : goal.returns-clause-last_ino
returns-clause-last_ino c = one_ino

pub returns-clause-last_index : goal.returns-clause-last_index
returns-clause-last_index c = one_index
