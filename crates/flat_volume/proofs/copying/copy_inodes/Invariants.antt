use Rattle.std.proofs.Common.{◌≡◌, take}
use Rattle.flat_volume.proofs.copying.copy_inodes.Given as goal

abbrev pub invariant-loop-entry : goal.invariant-loop-entry
invariant-loop-entry l = l.copy.items ≡ take l.entry-index l.inodes.items
