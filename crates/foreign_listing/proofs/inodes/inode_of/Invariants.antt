use Rattle.std.proofs.Common.{◌≡◌, drop}
use Rattle.foreign_listing.specs.Lines.{inode_in}
use Rattle.foreign_listing.proofs.inodes.inode_of.Given as goal

abbrev pub invariant-loop-row : goal.invariant-loop-row
invariant-loop-row l = inode_in l.fn.tree.sub l.fn.tree.inodes.items l.ino ≡ inode_in l.fn.tree.sub (drop l.row-index l.row-items) l.ino
