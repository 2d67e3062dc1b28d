use Rattle.log_rows.proofs.RowLemmas.{turned_drawn, turned_reason, turned_after, moved_drawn, moved_reason, moved_after}
use Rattle.log_rows.proofs.rows.moved_directories.Goals as goal

pub returns : goal.returns
returns c = record { turned_drawn = turned_drawn; turned_reason = turned_reason; turned_after = turned_after; moved_drawn = moved_drawn; moved_reason = moved_reason; moved_after = moved_after }
