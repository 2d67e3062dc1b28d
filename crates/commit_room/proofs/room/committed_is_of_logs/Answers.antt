use Rattle.commit_room.proofs.Counting.{state_is}
use Rattle.commit_room.proofs.Committed.{committed_of_logs}
use Rattle.commit_room.proofs.room.committed_is_of_logs.Goals as goal

pub returns-clause-state : goal.returns-clause-state
returns-clause-state c volume events = state_is volume events

pub returns-clause-committed : goal.returns-clause-committed
returns-clause-committed c volume events id log coherent legal has = committed_of_logs volume coherent events legal id log has
