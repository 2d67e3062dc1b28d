use Rattle.leaf_edit.proofs.Cutting.{cut_all}
use Rattle.leaf_edit.proofs.whole.clear.Goals as goal

pub returns : goal.returns
returns c = cut_all c.args.block.now c.put_u32.new.bytes c.told-block c.put_u32.ensures
