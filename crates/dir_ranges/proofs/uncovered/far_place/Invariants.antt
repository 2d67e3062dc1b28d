-- The first uncovered place is among those that are left.
use Rattle.std.proofs.Common.{◌≡◌, find, map}
use Rattle.log_image.specs.LogItems.{ranges_in}
use Rattle.tree_range.specs.Shape.{tree_items}
use Rattle.current_view.specs.Told.{far_told}
use Rattle.dir_ranges.specs.Gone.{is_uncovered, place_of}
use Rattle.dir_ranges.proofs.uncovered.far_place.Given as goal

abbrev pub invariant-loop-dir : goal.invariant-loop-dir
invariant-loop-dir l =
    (find (is_uncovered (ranges_in (tree_items l.table l.log))) (map place_of (map (far_told l.key) l.dir-iterator))
    ≡ find (is_uncovered (ranges_in (tree_items l.table l.log))) (map place_of (map (far_told l.key) l.fn.refs))) ×
    (goal.iterator-loop-dir).can_next l.dir-iterator ×
    (goal.iterator-loop-dir).is_finite l.dir-iterator
