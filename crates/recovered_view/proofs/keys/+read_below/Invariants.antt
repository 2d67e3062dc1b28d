-- The items below the children so far have keys that fit.
use Rattle.std.proofs.Common.{◌-◌}
use Rattle.tree_check.specs.Items.{HaveKeys}
use Rattle.tree_check.proofs.Each.{in_front}
use Rattle.recovered_view.proofs.keys.+read_below.Given as goal

abbrev pub decreases-read_below : goal.decreases-read_below
decreases-read_below l = l.level

abbrev pub invariant-loop-place : goal.invariant-loop-place
invariant-loop-place l = HaveKeys (in_front (l.level - 1) l.table l.node l.place)
