use Rattle.std.proofs.Common.{ℕ, List, ◌<◌, get_or}
use Rattle.flat_model.specs.Coherent.{KeepsBlockLimits}
use Rattle.flat_record.proofs.block_limits.do_keep_limits.Given as goal

abbrev pub invariant-loop-entry : goal.invariant-loop-entry
invariant-loop-entry l = (k : ℕ) (d : ℕ × List ℕ) → k < l.entry-index → KeepsBlockLimits l.size (get_or l.blocks.items k d).0 (get_or l.blocks.items k d).1
