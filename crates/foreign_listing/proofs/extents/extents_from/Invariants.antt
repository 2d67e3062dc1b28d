use Rattle.std.proofs.Common.{◌≡◌, [], drop}
use Rattle.foreign_listing.specs.Lines.{extents_from}
use Rattle.foreign_listing.proofs.extents.extents_from.Given as goal

abbrev pub invariant-loop-row : goal.invariant-loop-row
invariant-loop-row l = extents_from [] l.fn.tree.extents.items l.ino ≡ extents_from l.extents.items (drop l.row-index l.row-items) l.ino
