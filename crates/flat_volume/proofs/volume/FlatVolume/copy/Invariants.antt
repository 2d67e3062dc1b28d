use Rattle.std.proofs.Common.{◌≡◌, take}
use Rattle.std.specs.List.{All}
use Rattle.flat_sub.specs.View.{IsWellKept}
use Rattle.flat_volume.proofs.Bare.{seen}
use Rattle.flat_volume.proofs.volume.FlatVolume.copy.Given as goal

abbrev pub invariant-loop-entry : goal.invariant-loop-entry
invariant-loop-entry l = record {
  seen_so_far : seen l.subs.items ≡ seen (take l.entry-index l.entry-items);
  each : All (λ e. IsWellKept e.1) l.subs.items;
}
