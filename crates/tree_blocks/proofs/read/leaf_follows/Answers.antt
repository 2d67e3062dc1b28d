use Rattle.std.proofs.Common.{◌≡◌, ◌∙◌, ◌++◌, ◌-◌, ◌+◌, length, ap, sym, arith}
use Rattle.std.proofs.lemmas.List.{length-map}
use Rattle.blk_base.specs.Leaf.{Item}
use Rattle.blk_base.specs.Keys.{keys_rise}
use Rattle.leaf_view.specs.Search.{keys_of}
use Rattle.block_table.specs.TreeIn.{block_at}
use Rattle.tree_blocks.specs.Steps.{leaf_at}
use Rattle.tree_blocks.proofs.Orders.{leaf_rise, keys_of-append, rise_left_empty, rise_right_empty, rise_meets}
use Rattle.tree_blocks.proofs.read.leaf_follows.Goals.{then-count-eq0-via-then-count-eq0, then-count-eq0-via-else-count-eq0+then-leaf_len-eq0}
use Rattle.tree_blocks.proofs.read.leaf_follows.Goals as goal

pub returns-then-count-eq0 : goal.returns-then-count-eq0
returns-then-count-eq0 c =
    let left = leaf_at c.args.table.now c.args.left.0 in
    let right = leaf_at c.args.table.now c.args.right.0 in
    let joined : keys_rise (keys_of (left ++ right)) ≡ keys_rise (keys_of left ++ keys_of right) = ap keys_rise (keys_of-append left right) in
    let left_rise = leaf_rise (block_at c.args.table.now c.args.left.0).bytes c.requires.leaf in
    let right_rise = leaf_rise (block_at c.args.table.now c.args.right.0).bytes c.requires.other_leaf in
    elim c.then-count-eq0.branch [ then-count-eq0-via-then-count-eq0 w ↦ rise_left_empty (keys_of left) (keys_of right) (length-map left (λ (item : Item). item.0) ∙ (sym c.leaf_len-count.ensures.value ∙ w.if-count-eq0.true)) right_rise ∙ sym joined | then-count-eq0-via-else-count-eq0+then-leaf_len-eq0 w ↦ rise_right_empty (keys_of left) (keys_of right) (length-map right (λ (item : Item). item.0) ∙ (sym w.leaf_len.ensures.value ∙ w.if-leaf_len-eq0.true)) left_rise ∙ sym joined ]

pub returns : goal.returns
returns c =
    let left = leaf_at c.args.table.now c.args.left.0 in
    let right = leaf_at c.args.table.now c.args.right.0 in
    let left_rise = leaf_rise (block_at c.args.table.now c.args.left.0).bytes c.requires.leaf in
    let right_rise = leaf_rise (block_at c.args.table.now c.args.right.0).bytes c.requires.other_leaf in
    let joined : keys_rise (keys_of (left ++ right)) ≡ keys_rise (keys_of left ++ keys_of right) = ap keys_rise (keys_of-append left right) in
    let long : c.leaf_len-count.result - 1 + 1 ≡ length (keys_of left) = omega (arith, length-map left (λ (item : Item). item.0)) in
    let meets = rise_meets (keys_of left) (keys_of right) (c.leaf_len-count.result - 1) c.leaf_key.result c.leaf_key-2.result long c.leaf_key.ensures c.leaf_key-2.ensures left_rise right_rise in
    c.is_below.ensures ∙ (meets ∙ sym joined)
