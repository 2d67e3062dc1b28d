-- The first of these names is among those that are left.
use Rattle.std.proofs.Common.{◌≡◌, map}
use Rattle.std.specs.List.{find}
use Rattle.log_image.specs.LogItems.{far_name}
use Rattle.recovered_view.specs.Sought.{is_sought}
use Rattle.recovered_view.proofs.sought.find_far.Given as goal

abbrev pub invariant-loop-dir : goal.invariant-loop-dir
invariant-loop-dir l =
    (find (is_sought l.sought) (map (far_name l.key) l.dir-iterator) ≡ find (is_sought l.sought) (map (far_name l.key) l.fn.refs)) ×
    (goal.iterator-loop-dir).can_next l.dir-iterator ×
    (goal.iterator-loop-dir).is_finite l.dir-iterator
