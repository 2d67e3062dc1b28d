-- The first uncovered place is among those that are left.
use Rattle.std.proofs.Common.{◌≡◌, find, map}
use Rattle.log_image.specs.LogItems.{ranges_in}
use Rattle.tree_range.specs.Shape.{tree_items}
use Rattle.current_view.specs.Told.{near_told}
use Rattle.dir_ranges.specs.Gone.{is_uncovered, place_of}
use Rattle.dir_ranges.proofs.uncovered.near_place.Given as goal

abbrev pub invariant-loop-index : goal.invariant-loop-index
invariant-loop-index l =
    (find (is_uncovered (ranges_in (tree_items l.table l.log))) (map place_of (map (near_told l.key) l.index-iterator))
    ≡ find (is_uncovered (ranges_in (tree_items l.table l.log))) (map place_of (map (near_told l.key) l.fn.refs))) ×
    (goal.iterator-loop-index).can_next l.index-iterator ×
    (goal.iterator-loop-index).is_finite l.index-iterator
