-- The entries that are left, one of which is wanted, and the byte from which on they lie.
use Rattle.blk_base.specs.Entries.{entry_bytes}
use Rattle.name_items.specs.Places.{IsEntryNamed}
use Rattle.name_items.proofs.Seen.{IsLeft}
use Rattle.name_items.proofs.place.entry_place.Given as goal

abbrev pub invariant-loop-entry : goal.invariant-loop-entry
invariant-loop-entry l =
    IsLeft entry_bytes (IsEntryNamed l.name) l.fn.entries l.entry-iterator l.at ×
    (goal.iterator-loop-entry).can_next l.entry-iterator ×
    (goal.iterator-loop-entry).is_finite l.entry-iterator
