use Rattle.std.proofs.Common.{◌≡◌, take}
use Rattle.volume_listing.proofs.walk.extended.Given as goal

abbrev pub invariant-loop-step : goal.invariant-loop-step
invariant-loop-step l = l.to.items ≡ take l.step-index l.path.items
