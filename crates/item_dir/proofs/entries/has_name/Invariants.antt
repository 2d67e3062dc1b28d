-- One of the entries that are left has the name exactly where one of all has.
use Rattle.std.proofs.Common.{◌≡◌}
use Rattle.std.specs.List.{list_any}
use Rattle.std.specs.Str.{bytes_eq}
use Rattle.item_dir.proofs.entries.has_name.Given as goal

abbrev pub invariant-loop-other : goal.invariant-loop-other
invariant-loop-other l =
    (list_any (λ e. bytes_eq e.name l.name) l.other-iterator ≡ list_any (λ e. bytes_eq e.name l.name) l.fn.entries) ×
    (goal.iterator-loop-other).can_next l.other-iterator ×
    (goal.iterator-loop-other).is_finite l.other-iterator
