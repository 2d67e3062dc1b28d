-- The first unchanged index is among the items that are left.
use Rattle.std.proofs.Common.{◌≡◌, find}
use Rattle.tree_range.specs.Shape.{tree_items}
use Rattle.dir_ranges.specs.Indexes.{indexes_between, is_unchanged, last_index}
use Rattle.dir_ranges.proofs.index.next_unchanged.Given as goal

abbrev pub invariant-loop-key : goal.invariant-loop-key
invariant-loop-key l =
    (find (is_unchanged (tree_items l.table l.current)) l.key-iterator
    ≡ find (is_unchanged (tree_items l.table l.current)) (indexes_between l.fn.dir.0 l.fn.first last_index (tree_items l.table l.committed))) ×
    (goal.iterator-loop-key).can_next l.key-iterator ×
    (goal.iterator-loop-key).is_finite l.key-iterator
