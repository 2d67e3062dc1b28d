-- The items up to the next one are copied.
use Rattle.std.proofs.Common.{length}
use Rattle.tree_range.specs.Between.{items_between, items_from_some}
use Rattle.tree_range.specs.Shape.{tree_items}
use Rattle.log_items.proofs.Copying.{IsCopying}
use Rattle.log_items.proofs.copy.copy_items.Given as goal

abbrev pub invariant-loop-next : goal.invariant-loop-next
invariant-loop-next l = IsCopying l.fn.first l.fn.last l.fn.from l.fn.table l.fn.log l.table l.log l.next

abbrev pub decreases-loop-next : goal.decreases-loop-next
decreases-loop-next l = length (items_from_some l.next (items_between l.first l.last (tree_items l.fn.table l.from)))
