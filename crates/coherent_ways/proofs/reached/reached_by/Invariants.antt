-- What was reached, and that the names in what was gone through lead to it.
use Rattle.std.proofs.Common.{◌≡◌, ◌<◌, ◌-◌, ℕ, suc, length, Contains}
use Rattle.std.specs.BTreeSet.{contains}
use Rattle.std.specs.Prelude.{slice_index}
use Rattle.std.specs.Ordering.{nat_cmp}
use Rattle.flat_model.specs.Names.{FlatName}
use Rattle.coherent_names.specs.Names.{flat_names}
use Rattle.coherent_ways.specs.Ways.{IsWalk}
use Rattle.coherent_ways.proofs.reached.reached_by.Given as goal

abbrev pub invariant-loop-at : goal.invariant-loop-at
invariant-loop-at l = record {
  walk : IsWalk (flat_names l.names) (contains nat_cmp l.walk.reached) l.walk.queue.items;
  closed : (k : ℕ) (name : FlatName) → k < l.at → Contains (flat_names l.names) name → name.dir ≡ slice_index l.walk.queue.items k → Contains l.walk.queue.items name.ino;
}

abbrev pub decreases-loop-at : goal.decreases-loop-at
decreases-loop-at l = suc (length l.names) - l.at
