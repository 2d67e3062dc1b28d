use Rattle.std.proofs.Common.{◌≡◌, filter, length}
use Rattle.tree_range.specs.Between.{items_from}
use Rattle.tree_range.specs.Shape.{tree_items}
use Rattle.log_items.specs.Forgotten.{is_entry_to}
use Rattle.log_items.proofs.Walk.{IsOnTheWay}
use Rattle.log_items.proofs.entries.delete_entries_to.Given as goal

abbrev pub invariant-loop-key : goal.invariant-loop-key
invariant-loop-key l = record {
  way : IsOnTheWay (is_entry_to l.ino.0) l.fn.table l.fn.log l.table l.log;
  behind : filter (is_entry_to l.ino.0) (items_from l.first (tree_items l.table l.log)) ≡ filter (is_entry_to l.ino.0) (tree_items l.table l.log);
}

abbrev pub decreases-loop-key : goal.decreases-loop-key
decreases-loop-key l = length (filter (is_entry_to l.ino.0) (tree_items l.table l.log))
