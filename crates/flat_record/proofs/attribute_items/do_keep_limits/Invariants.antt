use Rattle.std.proofs.Common.{ℕ, List, ◌<◌, get_or}
use Rattle.flat_record.specs.AttributeShares.{KeepsAttribute}
use Rattle.flat_record.proofs.attribute_items.do_keep_limits.Given as goal

abbrev pub invariant-loop-entry : goal.invariant-loop-entry
invariant-loop-entry l = (k : ℕ) (d : List ℕ × List ℕ) → k < l.entry-index → KeepsAttribute (get_or l.entries.items k d)
