use Rattle.std.proofs.Common.{◌++◌, ◌∷◌, [], ◌∙◌, List, length, ap, arith}
use Rattle.blk_base.specs.declared.key.Addr.{Addr}
use Rattle.blk_base.specs.Leaf.{Item}
use Rattle.tree_blocks.specs.Steps.{leaf_at}
use Rattle.cow_tree.proofs.Leaves.{front_changes, kept_block, leaf_kept, leaf_same, some_of, two_spread}
use Rattle.cow_tree.proofs.leaf.put_in_front.Goals as goal

pub leaf_piece-requires-clause-some : goal.leaf_piece-requires-clause-some
leaf_piece-requires-clause-some c = some_of (leaf_at c.lone_leaf-lone.new.table c.lone_leaf-lone.result.0) [] (c.args.key, c.args.bytes.now) c.lone_leaf-lone.ensures.items

pub leaf_piece-requires-2 : goal.leaf_piece-requires-2
leaf_piece-requires-2 c =
    let old = c.args.table.now in
    let new = c.lone_leaf-lone.new.table in
    let same = kept_block old new c.args.at.0 c.lone_leaf-lone.result.0 c.requires.leaf c.lone_leaf-lone.ensures.changes in
    record { leaf = leaf_kept old new c.args.at.0 same c.requires.leaf; some = omega (arith, c.requires.some, ap length (leaf_same old new c.args.at.0 same)) }

pub returns : goal.returns
returns c =
    let old = c.args.table.now in
    let new = c.lone_leaf-lone.new.table in
    let at = c.args.at.0 in
    let lone = c.lone_leaf-lone.result.0 in
    let same = kept_block old new at lone c.requires.leaf c.lone_leaf-lone.ensures.changes in
    let item : Item = (c.args.key, c.args.bytes.now) in
    two_spread old new at lone at c.leaf_piece.result c.leaf_piece-2.result (item ∷ leaf_at old at) 1 (ap (λ (a : Addr). a.0) c.leaf_piece.ensures.at) (ap (λ (a : Addr). a.0) c.leaf_piece-2.ensures.at)
    (ap (λ (l : List Item). l ++ leaf_at new at) c.lone_leaf-lone.ensures.items ∙ ap (λ (l : List Item). item ∷ l) (leaf_same old new at same)) c.leaf_piece.ensures.piece c.leaf_piece-2.ensures.piece (front_changes old new at lone c.requires.leaf c.lone_leaf-lone.ensures.changes)
