use Rattle.log_rows.proofs.RowLemmas.{renamed_drawn, renamed_reason, renamed_after, renamed_kept, crossed_drawn, crossed_reason, crossed_after}
use Rattle.log_rows.proofs.rows.renamed_files.Goals as goal

pub returns : goal.returns
returns c = record { renamed_drawn = renamed_drawn; renamed_reason = renamed_reason; renamed_after = renamed_after; renamed_kept = renamed_kept; crossed_drawn = crossed_drawn; crossed_reason = crossed_reason; crossed_after = crossed_after }
