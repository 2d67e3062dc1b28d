use Rattle.log_rows.proofs.RowLemmas.{again_drawn, again_reason, again_after, again_gone, again_ranges}
use Rattle.log_rows.proofs.rows.files_made_again.Goals as goal

pub returns : goal.returns
returns c = record { again_drawn = again_drawn; again_reason = again_reason; again_after = again_after; again_gone = again_gone; again_ranges = again_ranges }
