-- The first covered index is among the items that are left.
use Rattle.std.proofs.Common.{◌≡◌, find}
use Rattle.log_image.specs.LogItems.{ranges_in}
use Rattle.tree_range.specs.Shape.{tree_items}
use Rattle.dir_ranges.specs.Entries.{is_covered_item}
use Rattle.dir_ranges.specs.Indexes.{indexes_between, last_index}
use Rattle.dir_ranges.proofs.entries.next_covered.Given as goal

abbrev pub invariant-loop-key : goal.invariant-loop-key
invariant-loop-key l =
    (find (is_covered_item (ranges_in (tree_items l.table l.log)) l.dir.0) l.key-iterator
    ≡ find (is_covered_item (ranges_in (tree_items l.table l.log)) l.dir.0) (indexes_between l.dir.0 l.fn.first last_index (tree_items l.table l.current))) ×
    (goal.iterator-loop-key).can_next l.key-iterator ×
    (goal.iterator-loop-key).is_finite l.key-iterator
