-- The entries that are left pass exactly where all do.
use Rattle.std.proofs.Common.{◌≡◌}
use Rattle.std.specs.List.{list_all}
use Rattle.item_keys.specs.Fits.{is_entry_at}
use Rattle.item_keys.proofs.entries.all_entries_at.Given as goal

abbrev pub invariant-loop-entry : goal.invariant-loop-entry
invariant-loop-entry l =
    (list_all (is_entry_at l.hash) l.entry-iterator ≡ list_all (is_entry_at l.hash) l.fn.entries) ×
    (goal.iterator-loop-entry).can_next l.entry-iterator ×
    (goal.iterator-loop-entry).is_finite l.entry-iterator
