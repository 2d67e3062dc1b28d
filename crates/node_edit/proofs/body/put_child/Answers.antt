use Rattle.std.proofs.Common.{arith}
use Rattle.leaf_view.specs.Listed.{pointers_in}
use Rattle.node_edit.proofs.Edits.{child_put}
use Rattle.node_edit.proofs.body.put_child.Goals as goal

pub returns : goal.returns
returns c = child_put c.args.block.now c.put_u64.new.bytes c.put_u64-2.new.bytes (pointers_in c.args.block.now) c.args.at c.args.child c.args.generation c.requires.known c.requires.within (omega arith) (omega arith) c.put_u64.ensures c.put_u64-2.ensures
