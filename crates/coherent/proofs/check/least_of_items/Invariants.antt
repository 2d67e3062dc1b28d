-- The least wrong inode among what was seen so far.
use Rattle.tree_range.specs.Shape.{tree_items}
use Rattle.coherent.specs.Answer.{IsLeastSeen}
use Rattle.coherent.proofs.check.least_of_items.Given as goal

abbrev pub invariant-loop-key : goal.invariant-loop-key
invariant-loop-key l =
    IsLeastSeen (tree_items l.table l.tree) l.table l.survey l.key-iterator l.least ×
    (goal.iterator-loop-key).can_next l.key-iterator ×
    (goal.iterator-loop-key).is_finite l.key-iterator
