use Rattle.inode_shown.proofs.Putting.{pushed}
use Rattle.tree_listing.specs.Places.{pair_at}
use Rattle.tree_listing.proofs.names.in_byte_order.Goals as goal

pub loop-at-preserved : goal.loop-at-preserved
loop-at-preserved c = pushed pair_at c.loop-at.yielded c.in-Some.at c.loop-at.ordered.entries c.insert.new.self.entries c.loop-at.invariant c.in_ok-insert.ensures.entries
