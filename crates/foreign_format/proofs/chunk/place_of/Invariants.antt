use Rattle.std.proofs.Common.{◌≤◌, ◌<◌, ℕ, get_or}
use Rattle.foreign_format.specs.declared.chunk.ChunkRow.{ChunkRow}
use Rattle.foreign_format.proofs.chunk.place_of.Given as goal

abbrev pub invariant-loop-place : goal.invariant-loop-place
invariant-loop-place l = (k : ℕ) (d : ChunkRow) → k < l.place → (get_or l.rows k d).logical ≤ l.logical
