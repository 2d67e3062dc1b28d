-- What was reached, and that all names so far lead to it.
use Rattle.std.proofs.Common.{◌≤◌, ◌<◌, ℕ, Contains}
use Rattle.std.specs.BTreeSet.{contains}
use Rattle.std.specs.List.{slice_index_or}
use Rattle.std.specs.Ordering.{nat_cmp}
use Rattle.coherent_names.specs.Names.{flat_names}
use Rattle.coherent_names.specs.declared.name.Name.{Name}
use Rattle.coherent_ways.specs.Ways.{Extends, IsWalk}
use Rattle.coherent_ways.proofs.walk.Walk.reach_below.Given as goal

abbrev pub invariant-loop-place : goal.invariant-loop-place
invariant-loop-place l = record {
  low : l.initial.place ≤ l.place;
  walk : IsWalk (flat_names l.names) (contains nat_cmp l.self.reached) l.self.queue.items;
  extends : Extends l.fn.self.queue.items l.self.queue.items;
  seen : (k : ℕ) (d : Name) → l.initial.place ≤ k → k < l.place → Contains l.self.queue.items (slice_index_or l.names k d).found.ino.0;
}
