use Rattle.tree_listing.proofs.Given.{given_coherent}
use Rattle.tree_listing.proofs.walk.visit.Goals as goal

pub put_inode-requires : goal.put_inode-requires
put_inode-requires c = given_coherent c.args.table.now c.args.state.now c.requires
