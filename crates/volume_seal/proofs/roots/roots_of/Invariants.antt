-- The root items of the first so many states stand in front.
use Rattle.std.proofs.Common.{◌≡◌, length}
use Rattle.volume_seal.proofs.Rooted.{AreRooted}
use Rattle.volume_seal.proofs.roots.roots_of.Given as goal

abbrev pub invariant-loop-place : goal.invariant-loop-place
invariant-loop-place l = record {
  rooted : AreRooted l.table l.states l.roots l.place;
  size : length l.roots ≡ 16;
}
