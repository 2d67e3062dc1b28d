use Rattle.std.specs.List.{AllWithin}
use Rattle.flat_sub.specs.View.{sub_view}
use Rattle.flat_check.specs.Parts.{IsRightInode}
use Rattle.flat_check.proofs.Entries.{EntryHolds}
use Rattle.flat_check.proofs.inodes.inodes_are_right.Given as goal

abbrev pub invariant-loop-entry : goal.invariant-loop-entry
invariant-loop-entry l = AllWithin (EntryHolds (IsRightInode (sub_view l.sub).sub.names)) l.sub.inodes.items 0 l.entry-index
