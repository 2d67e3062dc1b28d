-- The first of these names is said by the items that are left.
use Rattle.std.proofs.Common.{◌≡◌}
use Rattle.std.specs.List.{find, flat_map}
use Rattle.log_image.specs.LogItems.{names_in_item}
use Rattle.recovered_view.specs.Sought.{is_sought}
use Rattle.recovered_view.proofs.sought.find_name.Given as goal

abbrev pub invariant-loop-key : goal.invariant-loop-key
invariant-loop-key l =
    (find (is_sought l.sought) (flat_map names_in_item l.key-iterator) ≡ find (is_sought l.sought) (flat_map names_in_item l.fn.items)) ×
    (goal.iterator-loop-key).can_next l.key-iterator ×
    (goal.iterator-loop-key).is_finite l.key-iterator
