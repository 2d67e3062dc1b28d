use Rattle.std.proofs.Common.{◌-◌, length}
use Rattle.flat_sub.specs.View.{name_view, names_view}
use Rattle.flat_sub.proofs.Placed.{SoughtAt}
use Rattle.flat_sub.proofs.sub.place_among.Given as goal

abbrev pub invariant-loop-place : goal.invariant-loop-place
invariant-loop-place l = SoughtAt (name_view l.at l.near) (names_view l.names.items l.nears.items) l.place

abbrev pub decreases-loop-place : goal.decreases-loop-place
decreases-loop-place l = length l.names.items - l.place
