use Rattle.log_edit.proofs.Rooms.{by_counts, for_fewer}
use Rattle.log_edit.proofs.laws.room_is_there.Goals as goal

pub returns-clause-counts : goal.returns-clause-counts
returns-clause-counts c = by_counts

pub returns-clause-fewer : goal.returns-clause-fewer
returns-clause-fewer c = for_fewer
