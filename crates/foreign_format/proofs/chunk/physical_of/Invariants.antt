use Rattle.std.proofs.Common.{◌≡◌, drop}
use Rattle.foreign_format.specs.Chunks.{physical_of}
use Rattle.foreign_format.proofs.chunk.physical_of.Given as goal

abbrev pub invariant-loop-chunk : goal.invariant-loop-chunk
invariant-loop-chunk l = physical_of l.chunks l.at l.count ≡ physical_of (drop l.chunk-index l.chunks) l.at l.count
