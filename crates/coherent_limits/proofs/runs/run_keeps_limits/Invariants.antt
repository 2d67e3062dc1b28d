-- All blocks so far keep their limits.
use Rattle.std.proofs.Common.{◌≡◌, ◌<◌, ◌+◌, ◌*◌, ℕ, List, Some}
use Rattle.flat_model.specs.Coherent.{KeepsBlockLimits}
use Rattle.table_volume.specs.Gives.{data_in}
use Rattle.coherent_limits.proofs.runs.run_keeps_limits.Given as goal

abbrev pub invariant-loop-place : goal.invariant-loop-place
invariant-loop-place l = record {
  place_is : l.block ≡ l.fn.at.0 + 4096 * l.place;
  kept : (i : ℕ) → i < l.place → (block : List ℕ) → data_in l.table (l.fn.at.0 + 4096 * i) ≡ Some block → KeepsBlockLimits l.size (l.number + i) block;
}
