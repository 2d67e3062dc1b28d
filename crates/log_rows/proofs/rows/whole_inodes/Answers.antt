use Rattle.log_rows.proofs.RowLemmas.{cut_drawn, cut_reason, cut_after, cut_kept, cut_whole}
use Rattle.log_rows.proofs.rows.whole_inodes.Goals as goal

pub returns : goal.returns
returns c = record { cut_drawn = cut_drawn; cut_reason = cut_reason; cut_after = cut_after; cut_kept = cut_kept; cut_whole = cut_whole }
