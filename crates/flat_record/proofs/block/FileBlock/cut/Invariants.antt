use Rattle.std.proofs.Common.{◌≡◌, ◌<◌, replicate}
use Rattle.std.specs.List.{All}
use lib.Seq.{paste}
use Rattle.flat_record.proofs.block.FileBlock.cut.Given as goal

abbrev pub invariant-loop-past : goal.invariant-loop-past
invariant-loop-past l = (l.self-inside.bytes.items ≡ paste l.fn.self l.from (replicate l.past 0) l.past) × All (λ byte. byte < 256) l.self-inside.bytes.items
