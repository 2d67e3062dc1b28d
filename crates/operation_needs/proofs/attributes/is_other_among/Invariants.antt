-- One of the entries that are left has another name exactly where one of all has.
use Rattle.std.proofs.Common.{◌≡◌, not}
use Rattle.std.specs.List.{list_any}
use Rattle.std.specs.Str.{bytes_eq}
use Rattle.operation_needs.proofs.attributes.is_other_among.Given as goal

abbrev pub invariant-loop-entry : goal.invariant-loop-entry
invariant-loop-entry l =
    (list_any (λ e. not (bytes_eq e.name l.name)) l.entry-iterator ≡ list_any (λ e. not (bytes_eq e.name l.name)) l.fn.entries) ×
    (goal.iterator-loop-entry).can_next l.entry-iterator ×
    (goal.iterator-loop-entry).is_finite l.entry-iterator
