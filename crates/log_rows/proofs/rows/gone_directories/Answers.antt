use Rattle.log_rows.proofs.RowLemmas.{replaced_drawn, replaced_reason}
use Rattle.log_rows.proofs.rows.gone_directories.Goals as goal

pub returns : goal.returns
returns c = record { replaced_drawn = replaced_drawn; replaced_reason = replaced_reason }
