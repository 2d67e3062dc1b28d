use Rattle.leaf_view.specs.Listed.{items_in}
use Rattle.leaf_edit.proofs.Cutting.{cut}
use Rattle.leaf_edit.proofs.whole.truncate.Goals as goal

pub returns : goal.returns
returns c = cut c.args.block.now c.put_u32.new.bytes (items_in c.args.block.now) c.args.at c.requires.packed c.requires.within c.put_u32.ensures
