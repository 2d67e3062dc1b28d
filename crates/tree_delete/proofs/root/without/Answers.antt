use Rattle.std.proofs.Common.{◌≡◌, ◌≤◌, ◌-◌, suc, List, length, ap, ◌∙◌, refl, arith}
use Rattle.blk_base.specs.Leaf.{Pointer}
use Rattle.block_table.specs.TreeIn.{block_at}
use Rattle.block_table.specs.declared.tree.Tree.{Tree}
use Rattle.tree_blocks.specs.Steps.{node_at}
use Rattle.tree_blocks.proofs.Listing.{node_from_ok}
use Rattle.tree_range.specs.Shape.{node_pointers}
use Rattle.tree_delete.specs.Rows.{IsLessNode}
use Rattle.tree_delete.proofs.Blocks.{gone, node_same}
use Rattle.tree_delete.proofs.Pairs.{node_some}
use Rattle.tree_delete.proofs.Roots.{less_tree, only_pointer, root_below, root_falls, root_leaf, root_stays}
use Rattle.tree_delete.proofs.root.without.Goals as goal

pub returns-then-tree-eq0 : goal.returns-then-tree-eq0
returns-then-tree-eq0 c =
    let old = c.args.table.now in
    let new = c.delete_in_leaf-root.new.table in
    let tree = c.args.tree in
    let result : Tree = record { root = c.delete_in_leaf-root.result; level = tree.level; owner = tree.owner } in
    let zero_level : tree.level ≡ 0 = omega (arith, c.if-tree-eq0.true) in
    less_tree 0 old new tree result c.args.key.now c.requires.tree zero_level refl (root_leaf old new tree result c.args.key.now zero_level c.requires.tree c.requires.current c.delete_in_leaf-root.ensures.leaf c.delete_in_leaf-root.ensures.items c.delete_in_leaf-root.ensures.edit c.delete_in_leaf-root.ensures.blocks c.delete_in_leaf-root.ensures.balance c.delete_in_leaf-root.ensures.dirty)

pub delete_below-root-requires-clause-below : goal.delete_below-root-requires-clause-below
delete_below-root-requires-clause-below c =
    let one : c.args.tree.level ≡ suc (c.args.tree.level - 1) = omega (arith, c.if-tree-eq0.false) in
    root_below (c.args.tree.level - 1) c.args.table.now c.args.tree c.args.key.now one c.requires.tree c.requires.current c.requires.present

pub node_len-requires-clause-node : goal.node_len-requires-clause-node
node_len-requires-clause-node c =
    let less : IsLessNode (c.args.tree.level - 1) c.args.table.now c.delete_below-root.new.table c.args.tree.root.0 c.delete_below-root.result.0 c.args.key.now = c.delete_below-root.ensures in
    node_from_ok (block_at c.delete_below-root.new.table c.delete_below-root.result.0).bytes less.shape.body

pub returns-then-node_len-ge-LEAST_ROOT_POINTERS : goal.returns-then-node_len-ge-LEAST_ROOT_POINTERS
returns-then-node_len-ge-LEAST_ROOT_POINTERS c =
    let old = c.args.table.now in
    let mid = c.delete_below-root.new.table in
    let tree = c.args.tree in
    let root = c.delete_below-root.result in
    let key = c.args.key.now in
    let level = tree.level - 1 in
    let one : tree.level ≡ suc level = omega (arith, c.if-tree-eq0.false) in
    let below = root_below level old tree key one c.requires.tree c.requires.current c.requires.present in
    let less : IsLessNode level old mid tree.root.0 root.0 key = c.delete_below-root.ensures in
    let result : Tree = record { root = root; level = tree.level; owner = tree.owner } in
    let long : 2 ≤ length (node_pointers mid root.0) = omega (arith, c.node_len.ensures.value, c.if-node_len-ge-LEAST_ROOT_POINTERS.true, ap (λ (l : List Pointer). length l) (node_same mid root.0)) in
    less_tree (suc level) old mid tree result key c.requires.tree one refl (root_stays level old mid tree key root.0 one c.requires.tree.low below less result refl long)

pub node_child-requires-clause-node : goal.node_child-requires-clause-node
node_child-requires-clause-node c =
    let less : IsLessNode (c.args.tree.level - 1) c.args.table.now c.delete_below-root.new.table c.args.tree.root.0 c.delete_below-root.result.0 c.args.key.now = c.delete_below-root.ensures in
    node_from_ok (block_at c.delete_below-root.new.table c.delete_below-root.result.0).bytes less.shape.body

pub returns : goal.returns
returns c =
    let old = c.args.table.now in
    let mid = c.delete_below-root.new.table in
    let tree = c.args.tree in
    let root = c.delete_below-root.result in
    let key = c.args.key.now in
    let level = tree.level - 1 in
    let one : tree.level ≡ suc level = omega (arith, c.if-tree-eq0.false) in
    let below = root_below level old tree key one c.requires.tree c.requires.current c.requires.present in
    let less : IsLessNode level old mid tree.root.0 root.0 key = c.delete_below-root.ensures in
    let body = node_from_ok (block_at mid root.0).bytes less.shape.body in
    let only = only_pointer (node_at mid root.0) c.node_child.result.0.0 c.node_child.result.1 (node_some mid root.0 body) (omega (arith, c.node_len.ensures.value, c.if-node_len-ge-LEAST_ROOT_POINTERS.false)) c.node_child.ensures in
    let result : Tree = record { root = c.node_child.result.0; level = level; owner = tree.owner } in
    let let_go = gone mid c.let_go.new.self root less.shape.taken.allowed less.shape.taken.taken c.let_go.ensures.dirty c.let_go.ensures.written in
    less_tree level old c.let_go.new.self tree result key c.requires.tree refl refl (root_falls level old mid tree key root.0 one c.requires.tree.low below less c.let_go.new.self result only.0 (node_same mid root.0 ∙ only.1) only.2 let_go)
