use Rattle.std.proofs.Common.{◌≡◌, ◌++◌, [], ◌∷◌, ◌∙◌, List, ap, drop}
use Rattle.blk_base.specs.Leaf.{Item}
use Rattle.tree_blocks.specs.Lists.{leaf_list}
use Rattle.tree_blocks.specs.Steps.{leaf_at}
use Rattle.tree_frame.specs.Frame.{with_item}
use Rattle.cow_tree.specs.Pieces.{ats_of, pointers_of}
use Rattle.cow_tree.proofs.Changes.{join_lists}
use Rattle.cow_tree.proofs.Items.{lower}
use Rattle.cow_tree.proofs.leaf.write_in_leaf.Goals as goal

pub returns-clause-spread : goal.returns-clause-spread
returns-clause-spread c =
    let old = c.args.table.now in
    let mine = c.own_block-own_at.new.table in
    let cleared = c.clear-gap.new.table in
    let new = c.fill.new.table in
    let at = c.args.at.0 in
    let own = c.own_block-own_at.result.0 in
    let key = c.args.key in
    let item : Item = (key, c.args.bytes.now) in
    let pieces = pointers_of c.fill.result in
    let spread = c.fill.ensures.spread in
    let same : leaf_at mine own ≡ leaf_at old at = ap leaf_list c.own_block-own_at.ensures.bytes in
    record {
      items_are = spread.items_are ∙ ap (λ (l : List Item). l ++ item ∷ drop c.clear-gap.result.place (leaf_at cleared own)) c.clear-gap.ensures.front ∙ ap (λ (l : List Item). lower key (leaf_at mine own) ++ item ∷ l) c.clear-gap.ensures.back ∙ ap (with_item key c.args.bytes.now) same;
      each = spread.each;
      changes = join_lists old cleared new (at ∷ []) (own ∷ []) (ats_of pieces) 1 2 (join_lists old mine cleared (at ∷ []) (own ∷ []) (own ∷ []) 1 0 c.own_block-own_at.ensures.changes c.clear-gap.ensures.changes) spread.changes;
    }
