use Rattle.std.proofs.Common.{◌≡◌, ◌-◌, ◌++◌, [], ◌∷◌, ◌∙◌, List, true, length, ap, sym, subst, arith}
use Rattle.blk_base.specs.Keys.{keys_rise}
use Rattle.blk_base.specs.Leaf.{Pointer}
use Rattle.leaf_view.specs.Search.{pointer_keys}
use Rattle.tree_range.specs.Part.{times_in}
use Rattle.tree_blocks.specs.Steps.{node_at}
use Rattle.cow_tree.specs.Pieces.{pointers_of, spliced}
use Rattle.cow_tree.proofs.Changes.{beside}
use Rattle.cow_tree.proofs.Leaves.{dirty_taken}
use Rattle.cow_tree.proofs.Nodes.{node_same, some_pieces}
use Rattle.cow_tree.proofs.Pointers.{length_spliced, pointers_left, pointers_right, spliced_left, spliced_right}
use Rattle.cow_tree.proofs.Steps.{elsewhere}
use Rattle.cow_tree.proofs.node.replace_in_half.Goals as goal

pub replace_child-requires-clause-order : goal.replace_child-requires-clause-order
replace_child-requires-clause-order c =
    let l = node_at c.args.table.now c.args.left.0 in
    let r = node_at c.args.table.now c.args.right.0 in
    let qs = pointers_of c.args.pieces.now in
    pointers_left (spliced l c.args.place qs) r (subst (λ (ps : List Pointer). keys_rise (pointer_keys ps) ≡ true) (spliced_left l r c.args.place qs (omega (arith, c.requires.front, c.if-place-lt-HALF_NODE.true))) c.requires.order)

pub replace_child-requires-else-place-lt-HALF_NODE-clause-order :
    goal.replace_child-requires-else-place-lt-HALF_NODE-clause-order
replace_child-requires-else-place-lt-HALF_NODE-clause-order c =
    let l = node_at c.args.table.now c.args.left.0 in
    let r = node_at c.args.table.now c.args.right.0 in
    let qs = pointers_of c.args.pieces.now in
    pointers_right l (spliced r (c.args.place - 60) qs) (subst (λ (ps : List Pointer). keys_rise (pointer_keys ps) ≡ true) (spliced_right l r c.args.place (c.args.place - 60) qs (omega (arith, c.requires.front, c.if-place-lt-HALF_NODE.false))) c.requires.order)

pub returns-then-place-lt-HALF_NODE-clause-pointers : goal.returns-then-place-lt-HALF_NODE-clause-pointers
returns-then-place-lt-HALF_NODE-clause-pointers c =
    let old = c.args.table.now in
    let new = c.replace_child.new.table in
    let left = c.args.left.0 in
    let right = c.args.right.0 in
    let l = node_at old left in
    let r = node_at old right in
    let qs = pointers_of c.args.pieces.now in
    let same = beside old new (λ x. times_in x (left ∷ [])) (λ x. times_in x (left ∷ [])) 0 right c.replace_child.ensures.changes (elsewhere left right c.requires.apart) (dirty_taken old right c.requires.other_node.dirty) in
    ap (λ (ps : List Pointer). ps ++ node_at new right) c.replace_child.ensures.pointers ∙ ap (λ (ps : List Pointer). spliced l c.args.place qs ++ ps) (node_same old new right same) ∙ sym (spliced_left l r c.args.place qs (omega (arith, c.requires.front, c.if-place-lt-HALF_NODE.true)))

pub returns-then-place-lt-HALF_NODE-clause-large : goal.returns-then-place-lt-HALF_NODE-clause-large
returns-then-place-lt-HALF_NODE-clause-large c =
    let l = node_at c.args.table.now c.args.left.0 in
    omega (arith, ap length c.replace_child.ensures.pointers, length_spliced l c.args.place (pointers_of c.args.pieces.now) (omega (arith, c.requires.front, c.if-place-lt-HALF_NODE.true)), some_pieces c.args.pieces.now, c.requires.front)

pub returns-else-place-lt-HALF_NODE-clause-pointers : goal.returns-else-place-lt-HALF_NODE-clause-pointers
returns-else-place-lt-HALF_NODE-clause-pointers c =
    let old = c.args.table.now in
    let new = c.replace_child-else-place-lt-HALF_NODE.new.table in
    let left = c.args.left.0 in
    let right = c.args.right.0 in
    let l = node_at old left in
    let r = node_at old right in
    let qs = pointers_of c.args.pieces.now in
    let place = c.args.place - 60 in
    let e = c.replace_child-else-place-lt-HALF_NODE.ensures in
    let same = beside old new (λ x. times_in x (right ∷ [])) (λ x. times_in x (right ∷ [])) 0 left e.changes (elsewhere right left (λ k. c.requires.apart (sym k))) (dirty_taken old left c.requires.node.dirty) in
    ap (λ (ps : List Pointer). ps ++ node_at new right) (node_same old new left same) ∙ ap (λ (ps : List Pointer). l ++ ps) e.pointers ∙ sym (spliced_right l r c.args.place place qs (omega (arith, c.requires.front, c.if-place-lt-HALF_NODE.false)))

pub returns-else-place-lt-HALF_NODE-clause-other_large :
    goal.returns-else-place-lt-HALF_NODE-clause-other_large
returns-else-place-lt-HALF_NODE-clause-other_large c =
    let r = node_at c.args.table.now c.args.right.0 in
    omega (arith, ap length c.replace_child-else-place-lt-HALF_NODE.ensures.pointers, length_spliced r (c.args.place - 60) (pointers_of c.args.pieces.now) (omega (arith, c.requires.within, c.if-place-lt-HALF_NODE.false)), some_pieces c.args.pieces.now, c.requires.least)
