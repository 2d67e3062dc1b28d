-- The greatest of what was seen and what is left are those of all.
use Rattle.std.proofs.Common.{◌≡◌}
use Rattle.tree_range.specs.Shape.{tree_items}
use Rattle.coherent_run.specs.Greatest.{greatest_index, greatest_ino}
use Rattle.coherent_run.proofs.state.greatest_of.Given as goal

abbrev pub invariant-loop-key : goal.invariant-loop-key
invariant-loop-key l =
    (greatest_ino l.ino l.key-iterator ≡ greatest_ino 256 (tree_items l.fn.table l.fn.tree)) ×
    (greatest_index l.index l.key-iterator ≡ greatest_index 1 (tree_items l.fn.table l.fn.tree)) ×
    (goal.iterator-loop-key).can_next l.key-iterator ×
    (goal.iterator-loop-key).is_finite l.key-iterator
