use Rattle.std.proofs.Common.{◌≡◌, ◌-◌, []}
use Rattle.foreign_format.specs.Chunks.{array_rows}
use Rattle.foreign_format.proofs.chunk.array_rows.Given as goal

abbrev pub invariant-loop-n : goal.invariant-loop-n
invariant-loop-n l = array_rows 32 [] l.array ≡ array_rows (32 - l.n) l.rows.items l.rest
