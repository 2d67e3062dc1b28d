use Rattle.std.proofs.Common.{◌≡◌, ◌∙◌, ◌++◌, ◌-◌, ◌+◌, length, ap, sym, arith}
use Rattle.std.proofs.lemmas.List.{length-map}
use Rattle.blk_base.specs.Keys.{keys_rise}
use Rattle.blk_base.specs.Leaf.{Pointer}
use Rattle.leaf_view.specs.Search.{pointer_keys}
use Rattle.block_table.specs.TreeIn.{block_at}
use Rattle.tree_blocks.specs.Steps.{node_at}
use Rattle.tree_blocks.proofs.Listing.{node_least}
use Rattle.tree_blocks.proofs.Orders.{node_rise, pointer_keys-append, rise_meets}
use Rattle.tree_blocks.proofs.read.node_follows.Goals as goal

pub node_key-requires-2-clause-within : goal.node_key-requires-2-clause-within
node_key-requires-2-clause-within c = omega (arith, node_least (block_at c.args.table.now c.args.right.0).bytes c.requires.other_node)

pub returns : goal.returns
returns c =
    let left = node_at c.args.table.now c.args.left.0 in
    let right = node_at c.args.table.now c.args.right.0 in
    let left_rise = node_rise (block_at c.args.table.now c.args.left.0).bytes c.requires.node in
    let right_rise = node_rise (block_at c.args.table.now c.args.right.0).bytes c.requires.other_node in
    let joined : keys_rise (pointer_keys (left ++ right)) ≡ keys_rise (pointer_keys left ++ pointer_keys right) = ap keys_rise (pointer_keys-append left right) in
    let long : c.node_len-count.result - 1 + 1 ≡ length (pointer_keys left) = omega (arith, length-map left (λ (pointer : Pointer). pointer.key)) in
    let meets = rise_meets (pointer_keys left) (pointer_keys right) (c.node_len-count.result - 1) c.node_key.result c.node_key-2.result long c.node_key.ensures c.node_key-2.ensures left_rise right_rise in
    c.is_below.ensures ∙ (meets ∙ sym joined)
