use Rattle.std.proofs.Common.{◌≡◌, ◌-◌}
use Rattle.tree_check.specs.Items.{AreBytes, HaveKeys, leaves_below, leaves_checked}
use Rattle.tree_check.proofs.Each.{in_front}
use Rattle.tree_check.proofs.ItemSteps.{left_to_check}
use Rattle.tree_check.proofs.leaves.+check_below.Given as goal

abbrev pub decreases-check_below : goal.decreases-check_below
decreases-check_below l = l.level

abbrev pub invariant-loop-place : goal.invariant-loop-place
invariant-loop-place l = record {
  answer : leaves_checked l.table l.fn.before (leaves_below l.level l.table l.fn.at.0) ≡ left_to_check (l.level - 1) l.table l.end l.node l.place;
  bytes : AreBytes (in_front (l.level - 1) l.table l.node l.place);
  keys : HaveKeys (in_front (l.level - 1) l.table l.node l.place);
}
