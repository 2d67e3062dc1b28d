use Rattle.leaf_view.specs.Listed.{pointers_in}
use Rattle.node_edit.proofs.Edits.{cut}
use Rattle.node_edit.proofs.body.truncate.Goals as goal

pub returns : goal.returns
returns c = cut c.args.block.now c.put_u32.new.bytes (pointers_in c.args.block.now) c.args.at c.requires.known c.requires.within c.put_u32.ensures
