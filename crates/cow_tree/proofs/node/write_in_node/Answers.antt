use Rattle.std.proofs.Common.{◌≡◌, [], ◌∷◌, List, ap, arith}
use Rattle.blk_base.specs.declared.key.Addr.{Addr}
use Rattle.blk_base.specs.Leaf.{Pointer}
use Rattle.tree_blocks.specs.Lists.{node_list, pointer_to}
use Rattle.tree_blocks.specs.Steps.{node_at}
use Rattle.cow_tree.specs.Pieces.{pointers_of, spliced}
use Rattle.cow_tree.proofs.Nodes.{node_owned, one_node}
use Rattle.cow_tree.proofs.node.write_in_node.Goals as goal

pub returns-then-node_len-count : goal.returns-then-node_len-count
returns-then-node_len-count c =
    let old = c.args.table.now in
    let mine = c.own_block-own_at.new.table in
    let new = c.split_node.new.table in
    let at = c.args.at.0 in
    let own = c.own_block-own_at.result.0 in
    let qs = pointers_of c.args.pieces.now in
    let same : node_at mine own ≡ node_at old at = ap node_list c.own_block-own_at.ensures.bytes in
    node_owned old mine new at own (spliced (node_at old at) c.args.place qs) (spliced (node_at mine own) c.args.place qs) (pointers_of c.split_node.result) 1 2 (omega arith) (ap (λ (l : List Pointer). spliced l c.args.place qs) same) c.own_block-own_at.ensures.changes c.split_node.ensures

pub returns : goal.returns
returns c =
    let old = c.args.table.now in
    let mine = c.own_block-own_at.new.table in
    let new = c.replace_child.new.table in
    let at = c.args.at.0 in
    let own = c.own_block-own_at.result.0 in
    let qs = pointers_of c.args.pieces.now in
    let same : node_at mine own ≡ node_at old at = ap node_list c.own_block-own_at.ensures.bytes in
    let one = one_node mine new own own c.node_piece.result (spliced (node_at mine own) c.args.place qs) 0 (ap (λ (a : Addr). a.0) c.node_piece.ensures.at) c.replace_child.ensures.pointers c.node_piece.ensures.piece c.replace_child.ensures.changes in
    node_owned old mine new at own (spliced (node_at old at) c.args.place qs) (spliced (node_at mine own) c.args.place qs) (pointer_to c.node_piece.result ∷ []) 0 2 (omega arith) (ap (λ (l : List Pointer). spliced l c.args.place qs) same) c.own_block-own_at.ensures.changes one
