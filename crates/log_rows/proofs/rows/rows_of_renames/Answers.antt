use Rattle.log_rows.proofs.RowLemmas.{eleven_reason, ten_reason, ten_after}
use Rattle.log_rows.proofs.rows.rows_of_renames.Goals as goal

pub returns : goal.returns
returns c = record { eleven_reason = eleven_reason; ten_reason = ten_reason; ten_after = ten_after }
