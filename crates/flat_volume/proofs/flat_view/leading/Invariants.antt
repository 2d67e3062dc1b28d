use Rattle.std.proofs.Common.{◌≡◌, filter, nat_eq, take}
use Rattle.flat_volume.proofs.flat_view.leading.Given as goal

abbrev pub invariant-loop-at : goal.invariant-loop-at
invariant-loop-at l = l.found.items ≡ filter (λ at. nat_eq at.ino.0 l.ino.0) (take l.at-index l.names.items)
