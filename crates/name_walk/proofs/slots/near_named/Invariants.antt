-- The first of these names is among those that are left.
use Rattle.std.proofs.Common.{◌≡◌, bytes_eq}
use Rattle.std.specs.List.{find}
use Rattle.name_walk.proofs.slots.near_named.Given as goal

abbrev pub invariant-loop-index : goal.invariant-loop-index
invariant-loop-index l =
    (find (λ r. bytes_eq r.name l.name) l.index-iterator ≡ find (λ r. bytes_eq r.name l.name) l.fn.refs) ×
    (goal.iterator-loop-index).can_next l.index-iterator ×
    (goal.iterator-loop-index).is_finite l.index-iterator
