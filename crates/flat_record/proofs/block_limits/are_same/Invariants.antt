use Rattle.std.proofs.Common.{◌≡◌, ℕ, List, ◌<◌, get_or}
use Rattle.flat_record.proofs.block_limits.are_same.Given as goal

abbrev pub invariant-loop-place : goal.invariant-loop-place
invariant-loop-place l = (k : ℕ) (d : ℕ × List ℕ) → k < l.place → get_or l.one.items k d ≡ get_or l.two.items k d
