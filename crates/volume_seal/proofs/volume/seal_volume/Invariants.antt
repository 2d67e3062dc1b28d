-- The trees of the first so many states are sealed.
use Rattle.volume_seal.proofs.States.{AreSealed}
use Rattle.volume_seal.proofs.volume.seal_volume.Given as goal

abbrev pub invariant-loop-state : goal.invariant-loop-state
invariant-loop-state l =
    AreSealed l.initial.table l.table l.states l.state-index l.fsid l.initial.out l.out
