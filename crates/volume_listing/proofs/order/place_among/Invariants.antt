use Rattle.std.proofs.Common.{◌-◌, length}
use Rattle.volume_listing.proofs.Places.{SoughtAt}
use Rattle.volume_listing.proofs.order.place_among.Given as goal

abbrev pub invariant-loop-place : goal.invariant-loop-place
invariant-loop-place l = SoughtAt l.name l.entries.items l.place

abbrev pub decreases-loop-place : goal.decreases-loop-place
decreases-loop-place l = length l.entries.items - l.place
