use Rattle.std.proofs.Common.{take, All}
use Rattle.flat_model.specs.Coherent.{IsNameBytes}
use Rattle.volume_core.proofs.spelled.read_path.Given as goal

abbrev pub invariant-loop-name : goal.invariant-loop-name
invariant-loop-name l = All IsNameBytes (take l.name-index l.name-items)
