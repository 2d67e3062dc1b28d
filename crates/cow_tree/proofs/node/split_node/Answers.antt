use Rattle.std.proofs.Common.{◌≡◌, ◌++◌, [], ◌∷◌, ◌∙◌, List, length, take, ap, arith}
use Rattle.std.proofs.lemmas.List.{length-drop}
use Rattle.blk_base.specs.declared.key.Addr.{Addr}
use Rattle.blk_base.specs.Keys.{keys_rise}
use Rattle.blk_base.specs.Leaf.{Pointer}
use Rattle.leaf_view.specs.Search.{pointer_keys}
use Rattle.tree_blocks.specs.Steps.{node_at}
use Rattle.cow_tree.specs.Pieces.{pointers_of, spliced}
use Rattle.cow_tree.proofs.Changes.{join_lists}
use Rattle.cow_tree.proofs.Nodes.{most_pieces, two_nodes}
use Rattle.cow_tree.proofs.Pointers.{length_front, length_spliced, take_drop}
use Rattle.cow_tree.proofs.Steps.{split}
use Rattle.cow_tree.proofs.node.split_node.Goals as goal

pub replace_in_half-requires-clause-front : goal.replace_in_half-requires-clause-front
replace_in_half-requires-clause-front c =
    let ps = node_at c.args.table.now c.args.at.0 in
    ap length c.node_split-right.ensures.front ∙ length_front 60 ps (omega (arith, c.requires.full, most_pieces c.args.pieces.now))

pub replace_in_half-requires-clause-least : goal.replace_in_half-requires-clause-least
replace_in_half-requires-clause-least c =
    let ps = node_at c.args.table.now c.args.at.0 in
    omega (arith, ap length c.node_split-right.ensures.back, length-drop 60 ps, c.requires.full, most_pieces c.args.pieces.now)

pub replace_in_half-requires-clause-most : goal.replace_in_half-requires-clause-most
replace_in_half-requires-clause-most c =
    let ps = node_at c.args.table.now c.args.at.0 in
    omega (arith, ap length c.node_split-right.ensures.back, length-drop 60 ps, c.requires.most)

pub replace_in_half-requires-clause-within : goal.replace_in_half-requires-clause-within
replace_in_half-requires-clause-within c =
    let ps = node_at c.args.table.now c.args.at.0 in
    omega (arith, ap length c.node_split-right.ensures.back, length-drop 60 ps, c.requires.within)

pub replace_in_half-requires-clause-order : goal.replace_in_half-requires-clause-order
replace_in_half-requires-clause-order c =
    let ps = node_at c.args.table.now c.args.at.0 in
    let mid = c.node_split-right.new.table in
    let e = c.node_split-right.ensures in
    let whole : node_at mid c.args.at.0 ++ node_at mid c.node_split-right.result.0 ≡ ps = ap (λ (l : List Pointer). l ++ node_at mid c.node_split-right.result.0) e.front ∙ ap (λ (l : List Pointer). take 60 ps ++ l) e.back ∙ take_drop 60 ps in
    ap (λ (l : List Pointer). keys_rise (pointer_keys (spliced l c.args.place (pointers_of c.args.pieces.now)))) whole ∙ c.requires.order

pub returns : goal.returns
returns c =
    let old = c.args.table.now in
    let mid = c.node_split-right.new.table in
    let new = c.replace_in_half.new.table in
    let at = c.args.at.0 in
    let right = c.node_split-right.result.0 in
    let place = c.args.place in
    let ps = node_at old at in
    let qs = pointers_of c.args.pieces.now in
    let e = c.node_split-right.ensures in
    let h = c.replace_in_half.ensures in
    let whole : node_at mid at ++ node_at mid right ≡ ps = ap (λ (l : List Pointer). l ++ node_at mid right) e.front ∙ ap (λ (l : List Pointer). take 60 ps ++ l) e.back ∙ take_drop 60 ps in
    let shown : node_at new at ++ node_at new right ≡ spliced ps place qs = h.pointers ∙ ap (λ (l : List Pointer). spliced l place qs) whole in
    two_nodes old new at at right c.node_piece.result c.node_piece-2.result (spliced ps place qs) 1 (ap (λ (a : Addr). a.0) c.node_piece.ensures.at) (ap (λ (a : Addr). a.0) c.node_piece-2.ensures.at) shown h.large h.other_large
    (omega (arith, length_spliced ps place qs c.requires.within, c.requires.full)) c.node_piece.ensures.piece c.node_piece-2.ensures.piece
    (join_lists old mid new (at ∷ []) (at ∷ right ∷ []) (at ∷ right ∷ []) 1 0 (split old mid at right c.requires.node.dirty e.kept e.taken e.others e.spare e.free) h.changes)
