-- The entries that are left may all stand there exactly where all may.
use Rattle.std.proofs.Common.{◌≡◌}
use Rattle.std.specs.List.{list_all}
use Rattle.blk_base.specs.Entries.{is_entry_kind}
use Rattle.item_dir.proofs.entries.all_of_kind.Given as goal

abbrev pub invariant-loop-entry : goal.invariant-loop-entry
invariant-loop-entry l =
    (list_all (is_entry_kind l.kind) l.entry-iterator ≡ list_all (is_entry_kind l.kind) l.fn.entries) ×
    (goal.iterator-loop-entry).can_next l.entry-iterator ×
    (goal.iterator-loop-entry).is_finite l.entry-iterator
