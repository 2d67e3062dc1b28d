use Rattle.std.proofs.Common.{◌≡◌, ◌-◌}
use Rattle.tree_seal.proofs.Half.{IsHalfSealed}
use Rattle.tree_seal.proofs.seal.+seal_below.Given as goal

abbrev pub invariant-loop-place : goal.invariant-loop-place
invariant-loop-place l = record {
  half : IsHalfSealed (l.want.level - 1) l.initial.table l.table l.want l.initial.out.pairs l.out.pairs l.place;
  room : l.out.room ≡ l.initial.out.room;
}

abbrev pub decreases-seal_below : goal.decreases-seal_below
decreases-seal_below l = l.want.now.level
