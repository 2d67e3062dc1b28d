-- The ids of some root items were read, and the others are left.
use Rattle.tree_range.specs.Shape.{tree_items}
use Rattle.log_root.specs.Entries.{log_roots}
use Rattle.log_root.proofs.Ranges.{IsReadTo}
use Rattle.log_root.proofs.read.subs.Given as goal

abbrev pub invariant-loop-key : goal.invariant-loop-key
invariant-loop-key l = record {
  read : IsReadTo (log_roots (tree_items l.fn.table l.fn.root)) l.key-iterator l.count l.fn.into l.into;
  can_next : (goal.iterator-loop-key).can_next l.key-iterator;
  is_finite : (goal.iterator-loop-key).is_finite l.key-iterator;
}
