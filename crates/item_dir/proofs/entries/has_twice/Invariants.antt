-- A name stands twice among the entries that are left exactly where one does among all.
use Rattle.std.proofs.Common.{◌≡◌, true, length}
use Rattle.std.specs.Option.{is_some}
use Rattle.blk_base.specs.Entries.{all_entries, entry_from, has_twice as twice_test}
use Rattle.item_dir.specs.Entries.{entries_in}
use Rattle.item_dir.proofs.entries.has_twice.Given as goal

abbrev pub invariant-loop-entry : goal.invariant-loop-entry
invariant-loop-entry l =
    (is_some (all_entries entry_from l.rest) ≡ true) ×
    (twice_test (entries_in l.rest) ≡ twice_test (entries_in l.fn.bytes))

abbrev pub decreases-loop-entry : goal.decreases-loop-entry
decreases-loop-entry l = length l.rest
