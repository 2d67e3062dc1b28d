-- Whether a range covers the place is told by those that are left.
use Rattle.std.proofs.Common.{◌≡◌}
use Rattle.std.specs.List.{list_any}
use Rattle.log_image.specs.LogItems.{ranges_in}
use Rattle.logged_volume.specs.FlatLog.{is_covered}
use Rattle.tree_range.specs.Shape.{tree_items}
use Rattle.dir_ranges.specs.Ranges.{does_reach}
use Rattle.dir_ranges.proofs.covered.is_covered.Given as goal

abbrev pub invariant-loop-key : goal.invariant-loop-key
invariant-loop-key l =
    (list_any (λ item. does_reach l.place.index item.1) l._key-iterator ≡ is_covered (ranges_in (tree_items l.table l.log)) l.place.dir l.place.index) ×
    (goal.iterator-loop-key).can_next l._key-iterator ×
    (goal.iterator-loop-key).is_finite l._key-iterator
