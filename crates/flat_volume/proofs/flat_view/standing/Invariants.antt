use Rattle.std.proofs.Common.{◌≡◌, filter, nat_eq, take}
use Rattle.flat_volume.proofs.flat_view.standing.Given as goal

abbrev pub invariant-loop-at : goal.invariant-loop-at
invariant-loop-at l = l.found.items ≡ filter (λ at. nat_eq at.dir.0 l.dir.0) (take l.at-index l.names.items)
