use Rattle.leaf_view.specs.Listed.{items_in}
use Rattle.leaf_edit.proofs.Packing.{PackedSoFar}
use Rattle.leaf_edit.proofs.whole.is_packed.Given as goal

abbrev pub invariant-loop-i : goal.invariant-loop-i
invariant-loop-i l = PackedSoFar l.block (items_in l.block) l.i l.bound
