use Rattle.log_rows.proofs.RowLemmas.{changed_drawn, changed_after, changed_ranges, changed_entries}
use Rattle.log_rows.proofs.rows.changed_indexes.Goals as goal

pub returns : goal.returns
returns c = record { changed_drawn = changed_drawn; changed_after = changed_after; changed_ranges = changed_ranges; changed_entries = changed_entries }
