use Rattle.std.proofs.Common.{◌≡◌, ℕ, map, take}
use Rattle.flat_model.specs.Records.{InodeRecord}
use Rattle.flat_volume.proofs.volume.FlatVolume.inodes.Given as goal

abbrev pub invariant-loop-entry : goal.invariant-loop-entry
invariant-loop-entry l = l.inos.items ≡ map (λ (e : ℕ × InodeRecord). record { 0 = e.0 }) (take l.entry-index l.entry-items)
