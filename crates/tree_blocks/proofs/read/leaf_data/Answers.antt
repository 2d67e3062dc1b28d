use Rattle.std.proofs.Common.{◌∙◌, ap, sym}
use Rattle.blk_base.specs.Leaf.{leaf_body_of}
use Rattle.leaf_edit.specs.Written.{data_at}
use Rattle.block_table.specs.TreeIn.{block_at}
use Rattle.tree_blocks.proofs.Listing.{data_shown, leaf_list-is}
use Rattle.tree_blocks.proofs.read.leaf_data.Goals as goal

pub returns-clause-value : goal.returns-clause-value
returns-clause-value c =
    let same = leaf_list-is (block_at c.args.table.now c.args.at.0).bytes c.of_body.result (ap leaf_body_of (sym c.block.ensures) ∙ c.of_body.ensures) in
    data_shown c.of_body.result c.args.place c.data.result.now c.data.ensures ∙ ap (λ items. data_at items c.args.place) (sym same)
