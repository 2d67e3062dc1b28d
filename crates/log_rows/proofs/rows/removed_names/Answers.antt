use Rattle.log_rows.proofs.RowLemmas.{emptied_drawn, emptied_reason, emptied_after, emptied_ranges, emptied_replayed, removed_drawn, removed_reason, removed_after, removed_ranges, removed_replayed}
use Rattle.log_rows.proofs.rows.removed_names.Goals as goal

pub returns : goal.returns
returns c = record { emptied_drawn = emptied_drawn; emptied_reason = emptied_reason; emptied_after = emptied_after; emptied_ranges = emptied_ranges; emptied_replayed = emptied_replayed; removed_drawn = removed_drawn; removed_reason = removed_reason; removed_after = removed_after; removed_ranges = removed_ranges; removed_replayed = removed_replayed }
