use Rattle.log_rows.proofs.RowLemmas.{data_names, data_record}
use Rattle.log_rows.proofs.rows.data_alone.Goals as goal

pub returns : goal.returns
returns c = record { data_names = data_names; data_record = data_record }
