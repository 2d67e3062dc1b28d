use Rattle.std.proofs.Common.{◌≡◌, drop}
use Rattle.foreign_file.specs.File.{coding_of}
use Rattle.foreign_file.proofs.file.coding_of.Given as goal

abbrev pub invariant-loop-extent : goal.invariant-loop-extent
invariant-loop-extent l = coding_of (drop l.extent-index l.extents) ≡ coding_of l.extents
