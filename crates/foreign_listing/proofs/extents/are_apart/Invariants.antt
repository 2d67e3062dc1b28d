use Rattle.std.proofs.Common.{◌≡◌, drop}
use Rattle.foreign_listing.specs.Lines.{are_apart}
use Rattle.foreign_listing.proofs.extents.are_apart.Given as goal

abbrev pub invariant-loop-extent : goal.invariant-loop-extent
invariant-loop-extent l = are_apart 0 l.extents ≡ are_apart l.end (drop l.extent-index l.extents)
