-- One of the entries that are left leads to the inode exactly where one of all does.
use Rattle.std.proofs.Common.{◌≡◌, nat_eq}
use Rattle.std.specs.List.{list_any}
use Rattle.blk_base.specs.Entries.{EntryValue}
use Rattle.log_items.proofs.entries.has_target.Given as goal

abbrev pub invariant-loop-entry : goal.invariant-loop-entry
invariant-loop-entry l =
    (list_any (λ (entry : EntryValue). nat_eq entry.target.objectid l.ino.0) l.entry-iterator ≡ list_any (λ (entry : EntryValue). nat_eq entry.target.objectid l.ino.0) l.fn.entries) ×
    (goal.iterator-loop-entry).can_next l.entry-iterator ×
    (goal.iterator-loop-entry).is_finite l.entry-iterator
