use Rattle.leaf_edit.proofs.Appending.{Appended}
use Rattle.leaf_edit.proofs.whole.append_items.Given as goal

abbrev pub invariant-loop-i : goal.invariant-loop-i
invariant-loop-i l = Appended l.initial.block l.block l.source l.from l.i
