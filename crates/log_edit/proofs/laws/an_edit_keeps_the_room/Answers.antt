use Rattle.log_edit.proofs.Rooms.{keeps_blocks, keeps_buffers}
use Rattle.log_edit.proofs.laws.an_edit_keeps_the_room.Goals as goal

pub returns-clause-blocks : goal.returns-clause-blocks
returns-clause-blocks c = keeps_blocks

pub returns-clause-buffers : goal.returns-clause-buffers
returns-clause-buffers c = keeps_buffers
