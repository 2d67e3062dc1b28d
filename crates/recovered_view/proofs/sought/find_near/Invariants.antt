-- The first of these names is among those that are left.
use Rattle.std.proofs.Common.{◌≡◌, map}
use Rattle.std.specs.List.{find}
use Rattle.log_image.specs.LogItems.{near_name}
use Rattle.recovered_view.specs.Sought.{is_sought}
use Rattle.recovered_view.proofs.sought.find_near.Given as goal

abbrev pub invariant-loop-index : goal.invariant-loop-index
invariant-loop-index l =
    (find (is_sought l.sought) (map (near_name l.key) l.index-iterator) ≡ find (is_sought l.sought) (map (near_name l.key) l.fn.refs)) ×
    (goal.iterator-loop-index).can_next l.index-iterator ×
    (goal.iterator-loop-index).is_finite l.index-iterator
