use Rattle.log_edit.proofs.Rooms.{enough_free, enough_spare}
use Rattle.log_edit.proofs.laws.room_is_enough_for_an_edit.Goals as goal

pub returns-clause-free : goal.returns-clause-free
returns-clause-free c = enough_free

pub returns-clause-spare : goal.returns-clause-spare
returns-clause-spare c = enough_spare
