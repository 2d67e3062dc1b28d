use Rattle.std.proofs.Common.{ℕ, take}
use Rattle.std.specs.List.{All}
use Rattle.flat_sub.specs.declared.sub.FlatSub.{FlatSub}
use Rattle.flat_sub.specs.View.{sub_view}
use Rattle.flat_model.specs.Coherent.{IsCoherent}
use Rattle.flat_volume.proofs.volume.FlatVolume.coherent.Given as goal

abbrev pub invariant-loop-entry : goal.invariant-loop-entry
invariant-loop-entry l = All (λ (e : ℕ × FlatSub). IsCoherent (sub_view e.1).sub) (take l.entry-index l.entry-items)
