use Rattle.leaf_edit.specs.Packed.{raised}
use Rattle.leaf_edit.specs.Shifts.{HeadersChanged}
use Rattle.leaf_edit.proofs.shift.raise_offsets.Given as goal

abbrev pub invariant-loop-i : goal.invariant-loop-i
invariant-loop-i l = HeadersChanged (raised l.by) l.initial.block l.block l.from l.i
