use Rattle.node_edit.proofs.Edits.{cleared}
use Rattle.node_edit.proofs.body.clear.Goals as goal

pub returns : goal.returns
returns c = cleared c.args.block.now c.put_u32.new.bytes c.told-block c.put_u32.ensures
