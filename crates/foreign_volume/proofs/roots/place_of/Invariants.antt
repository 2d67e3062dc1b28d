use Rattle.foreign_volume.proofs.Subs.{AreBefore}
use Rattle.foreign_volume.proofs.roots.place_of.Given as goal

abbrev pub invariant-loop-place : goal.invariant-loop-place
invariant-loop-place l = AreBefore l.subs l.place l.id
