use Rattle.std.proofs.Common.{◌≡◌}
use Rattle.std.specs.List.{All}
use Rattle.flat_sub.specs.View.{IsWellKept}
use Rattle.flat_volume.proofs.Bare.{seen, listed}
use Rattle.flat_volume.proofs.volume.FlatVolume.empty.Given as goal

abbrev pub invariant-loop-number : goal.invariant-loop-number
invariant-loop-number l = (seen l.made.items ≡ listed l.number) × All (λ e. IsWellKept e.1) l.made.items
