-- The names so far are in order.
use Rattle.std.proofs.Common.{◌≡◌, [], map}
use Rattle.inode_shown.specs.Putting.{all_put}
use Rattle.tree_listing.specs.Places.{pair_at}
use Rattle.tree_listing.proofs.names.in_byte_order.Given as goal

abbrev pub invariant-loop-at : goal.invariant-loop-at
invariant-loop-at l = l.ordered.entries ≡ all_put [] (map pair_at l.yielded)
