use Rattle.tree_blocks.proofs.Apart.{copied}
use Rattle.tree_blocks.proofs.fresh.copy_out.Goals as goal

pub returns : goal.returns
returns c =
    copied c.args.table.now c.fresh-copy.new.table c.let_go.new.self c.args.at c.fresh-copy.result.0 c.block.result.now c.requires.taken c.requires.written c.fresh-copy.ensures.taken c.fresh-copy.ensures.bytes c.block.ensures c.fresh-copy.ensures.others c.fresh-copy.ensures.spare c.fresh-copy.ensures.free c.let_go.ensures.written
