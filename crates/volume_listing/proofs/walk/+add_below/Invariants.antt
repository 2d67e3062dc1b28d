use Rattle.std.proofs.Common.{◌≡◌, ◌++◌, ◌-◌, take}
use Rattle.std.specs.List.{flat_map}
use Rattle.flat_sub.specs.View.{sub_view}
use Rattle.volume_listing.specs.Found.{below_name}
use Rattle.volume_listing.proofs.walk.+add_below.Given as goal

abbrev pub decreases-add_below : goal.decreases-add_below
decreases-add_below l = l.depth

abbrev pub invariant-loop-entry : goal.invariant-loop-entry
invariant-loop-entry l = l.found.items ≡ l.initial.found.items ++ flat_map (below_name (l.depth - 1) (sub_view l.sub).sub l.path.items) (take l.entry-index l.entry-items)
