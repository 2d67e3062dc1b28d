use Rattle.std.proofs.Common.{◌∙◌, List, ℕ, ap, drop}
use Rattle.blk_base.specs.Leaf.{count_of}
use Rattle.tree_seal.proofs.Bodies.{body_kept}
use Rattle.tree_seal.proofs.Single.{one_sealed}
use Rattle.tree_seal.proofs.one.seal_one.Goals as goal

pub returns-clause-block : goal.returns-clause-block
returns-clause-block c =
    one_sealed c.args.table.now c.seal.new.self c.args.want.now c.seal_block.new.block c.requires.dirty c.seal.ensures.table c.seal_block.ensures.header
    (body_kept _ c.seal_block.new.block (c.seal_block.ensures.count ∙ ap count_of c.block_mut.ensures.value) (c.seal_block.ensures.body ∙ ap (λ (bytes : List ℕ). drop 101 bytes) c.block_mut.ensures.value))
