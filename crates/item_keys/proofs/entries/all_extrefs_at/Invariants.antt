-- The entries that are left pass exactly where all do.
use Rattle.std.proofs.Common.{◌≡◌}
use Rattle.std.specs.List.{list_all}
use Rattle.item_keys.specs.Fits.{is_extref_at}
use Rattle.item_keys.proofs.entries.all_extrefs_at.Given as goal

abbrev pub invariant-loop-parent : goal.invariant-loop-parent
invariant-loop-parent l =
    (list_all (is_extref_at l.hash) l.parent-iterator ≡ list_all (is_extref_at l.hash) l.fn.refs) ×
    (goal.iterator-loop-parent).can_next l.parent-iterator ×
    (goal.iterator-loop-parent).is_finite l.parent-iterator
