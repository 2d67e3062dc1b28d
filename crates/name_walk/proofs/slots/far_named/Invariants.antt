-- The first of these names is among those that are left.
use Rattle.std.proofs.Common.{◌≡◌}
use Rattle.std.specs.List.{find}
use Rattle.name_walk.specs.Leads.{is_far_of}
use Rattle.name_walk.proofs.slots.far_named.Given as goal

abbrev pub invariant-loop-parent : goal.invariant-loop-parent
invariant-loop-parent l =
    (find (is_far_of l.dir l.name) l.parent-iterator ≡ find (is_far_of l.dir l.name) l.fn.refs) ×
    (goal.iterator-loop-parent).can_next l.parent-iterator ×
    (goal.iterator-loop-parent).is_finite l.parent-iterator
