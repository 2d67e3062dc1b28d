-- The first entry with the name is among those that are left.
use Rattle.std.proofs.Common.{◌≡◌, bytes_eq}
use Rattle.std.specs.List.{find}
use Rattle.name_walk.proofs.slots.entry_named.Given as goal

abbrev pub invariant-loop-entry : goal.invariant-loop-entry
invariant-loop-entry l =
    (find (λ e. bytes_eq e.name l.name) l.entry-iterator ≡ find (λ e. bytes_eq e.name l.name) l.fn.entries) ×
    (goal.iterator-loop-entry).can_next l.entry-iterator ×
    (goal.iterator-loop-entry).is_finite l.entry-iterator
