use Rattle.std.proofs.Common.{ℕ, List, ◌<◌, ◌≤◌, None, get_or}
use Rattle.std.specs.List.{sum_by}
use Rattle.blk_base.specs.Crc.{name_hash_of}
use Rattle.flat_record.specs.AttributeShares.{share_of}
use Rattle.flat_record.proofs.attribute_items.do_fit.Given as goal

abbrev pub invariant-loop-entry : goal.invariant-loop-entry
invariant-loop-entry l = (k : ℕ) (d : List ℕ × List ℕ) → k < l.entry-index → sum_by (share_of (name_hash_of (get_or l.entries.items k d).0) None) l.entries.items ≤ 3970
