-- The first uncovered place is said by the items that are left.
use Rattle.std.proofs.Common.{◌≡◌}
use Rattle.log_image.specs.LogItems.{ranges_in}
use Rattle.tree_range.specs.Between.{items_between}
use Rattle.tree_range.specs.Shape.{tree_items}
use Rattle.dir_ranges.specs.Gone.{first_uncovered, last_ref}
use Rattle.dir_ranges.proofs.uncovered.first_uncovered.Given as goal

abbrev pub invariant-loop-key : goal.invariant-loop-key
invariant-loop-key l =
    (first_uncovered (ranges_in (tree_items l.table l.log)) l.key-iterator
    ≡ first_uncovered (ranges_in (tree_items l.table l.log)) (items_between l.first (last_ref l.fn.ino.0) (tree_items l.table l.committed))) ×
    (goal.iterator-loop-key).can_next l.key-iterator ×
    (goal.iterator-loop-key).is_finite l.key-iterator
