use Rattle.std.proofs.Common.{◌≡◌, drop, take}
use Rattle.tree_check.specs.Items.{AreBytes, leaf_checked}
use Rattle.tree_check.proofs.leaves.check_leaf.Given as goal

abbrev pub invariant-loop-place : goal.invariant-loop-place
invariant-loop-place l = record {
  answer : leaf_checked l.at l.fn.before l.leaf ≡ leaf_checked l.at l.end (drop l.place l.leaf);
  bytes : AreBytes (take l.place l.leaf);
}
