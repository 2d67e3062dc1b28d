use Rattle.std.proofs.Common.{arith}
use Rattle.tree_frame.proofs.Places.{a_tree_fits_its_table}
use Rattle.tree_seal.specs.declared.tests.TheConstants.{FSID}
use Rattle.tree_seal.proofs.Ready.{node_above, node_written}
use Rattle.tree_seal.proofs.tests.is_ready_node.Goals as goal

pub returns-clause-above : goal.returns-clause-above
returns-clause-above c = λ ok. node_above c.args.table.now c.args.tree.now (omega arith) (c.is_dirty_node.ensures c.if-not-is_dirty_node.false).dirty

pub returns-clause-written : goal.returns-clause-written
returns-clause-written c = λ ok. node_written c.args.table.now c.args.tree.now FSID 0 (omega arith) (c.is_dirty_node.ensures c.if-not-is_dirty_node.false).dirty (c.are_dirty.ensures c.if-not-are_dirty.false)

pub returns-clause-fits : goal.returns-clause-fits
returns-clause-fits c = λ ok. a_tree_fits_its_table c.args.table.now c.args.tree.now (c.is_tree.ensures.0 ok)
