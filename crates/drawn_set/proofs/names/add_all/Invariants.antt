-- The numbers before the index are added.
use Rattle.std.proofs.Common.{take}
use Rattle.drawn_set.specs.Names.{AddsAll}
use Rattle.drawn_set.proofs.names.add_all.Given as goal

abbrev pub invariant-loop-number : goal.invariant-loop-number
invariant-loop-number l = AddsAll (take l.number-index l.numbers) l.fn.set.keys l.set.keys
