-- The lines so far, and those of the attributes that are left.
use Rattle.std.proofs.Common.{◌≡◌, ◌++◌, length}
use Rattle.std.specs.List.{flat_map}
use Rattle.volume_listing.specs.Listing.{attribute_line}
use Rattle.inode_shown.specs.Attributes.{lent_pairs}
use Rattle.inode_shown.proofs.attributes.put_all.Given as goal

abbrev pub invariant-loop-name : goal.invariant-loop-name
invariant-loop-name l = l.text.items ++ flat_map attribute_line (lent_pairs l.left.entries) ≡ l.fn.text.items ++ flat_map attribute_line (lent_pairs l.fn.attributes.entries)

abbrev pub decreases-loop-name : goal.decreases-loop-name
decreases-loop-name l = length l.left.entries
