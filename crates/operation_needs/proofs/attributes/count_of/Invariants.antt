-- What was counted, with what is left, is all.
use Rattle.std.proofs.Common.{◌≡◌, ◌+◌, length}
use Rattle.operation_needs.proofs.attributes.count_of.Given as goal

abbrev pub invariant-loop-item : goal.invariant-loop-item
invariant-loop-item l =
    (l.count + length l._item-iterator ≡ length l.fn.items) ×
    (goal.iterator-loop-item).can_next l._item-iterator ×
    (goal.iterator-loop-item).is_finite l._item-iterator
