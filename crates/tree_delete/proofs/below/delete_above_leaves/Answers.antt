use Rattle.std.proofs.Common.{◌≡◌, ◌≢◌, ◌++◌, ℕ, List, [], ◌∷◌, length, false, Some, slice_get, ap, ◌∙◌, sym, subst, arith}
use Rattle.std.specs.Prelude.{insert, remove}
use Rattle.std.proofs.lemmas.List.Elements.{All-cons, All-head, All-nil}
use Rattle.blk_base.specs.Leaf.{Item, Pointer}
use Rattle.block_table.specs.declared.state.SlotState.TheVariants.{Dirty, LetGo}
use Rattle.blk_base.specs.Trees.{first_key}
use Rattle.block_table.specs.TreeIn.{block_at}
use Rattle.leaf_view.specs.Search.{IsPlace, keys_of, pointer_keys}
use Rattle.tree_blocks.specs.Steps.{node_at}
use Rattle.tree_blocks.proofs.Listing.{leaf_from_ok}
use Rattle.tree_range.specs.Shape.{IsSubtree, leaf_items}
use Rattle.tree_delete.specs.Rows.{IsChildOf}
use Rattle.tree_delete.proofs.Blocks.{leaf_same}
use Rattle.tree_delete.proofs.Deleting.{IsTurn, aimed, first_read, leaf_gone, leaf_less, less_node, node_first, turn_inside, turn_inserted, turn_least, turn_node, turn_order, turn_removed}
use Rattle.tree_delete.proofs.Rows.{as_root}
use Rattle.tree_delete.proofs.below.delete_above_leaves.Goals as goal

pub child_place-place-requires : goal.child_place-place-requires
child_place-place-requires c = node_first 0 c.args.table.now c.args.at.0 c.args.key.now c.requires.below

pub node_child-requires-clause-node : goal.node_child-requires-clause-node
node_child-requires-clause-node c = (node_first 0 c.args.table.now c.args.at.0 c.args.key.now c.requires.below).body

pub shrink_leaf-requires-clause-leaf : goal.shrink_leaf-requires-clause-leaf
shrink_leaf-requires-clause-leaf c =
    let aim = aimed 0 c.args.table.now c.args.at.0 c.args.key.now c.child_place-place.result c.node_child.result.0.0 c.node_child.result.1 c.requires.below c.child_place-place.ensures c.node_child.ensures in
    as_root 0 c.args.table.now c.node_child.result.0.0 aim.way.child.0

pub shrink_leaf-requires-clause-current : goal.shrink_leaf-requires-clause-current
shrink_leaf-requires-clause-current c =
    let aim = aimed 0 c.args.table.now c.args.at.0 c.args.key.now c.child_place-place.result c.node_child.result.0.0 c.node_child.result.1 c.requires.below c.child_place-place.ensures c.node_child.ensures in
    All-head (λ (a : ℕ). (block_at c.args.table.now a).state ≢ LetGo) c.node_child.result.0.0 [] aim.way.current

pub shrink_leaf-requires-clause-rises : goal.shrink_leaf-requires-clause-rises
shrink_leaf-requires-clause-rises c =
    let aim = aimed 0 c.args.table.now c.args.at.0 c.args.key.now c.child_place-place.result c.node_child.result.0.0 c.node_child.result.1 c.requires.below c.child_place-place.ensures c.node_child.ensures in
    aim.way.rises

pub shrink_leaf-requires-clause-present : goal.shrink_leaf-requires-clause-present
shrink_leaf-requires-clause-present c =
    let aim = aimed 0 c.args.table.now c.args.at.0 c.args.key.now c.child_place-place.result c.node_child.result.0.0 c.node_child.result.1 c.requires.below c.child_place-place.ensures c.node_child.ensures in
    aim.way.present

pub drop_child-requires-clause-node : goal.drop_child-requires-clause-node
drop_child-requires-clause-node c =
    let old = c.args.table.now in
    let mid = c.shrink_leaf.new.table in
    let at = c.args.at.0 in
    let key = c.args.key.now in
    let place = c.child_place-place.result in
    let aim = aimed 0 old at key place c.node_child.result.0.0 c.node_child.result.1 c.requires.below c.child_place-place.ensures c.node_child.ensures in
    let p : Pointer = record { key = aim.first; at = c.node_child.result.0.0; generation = aim.generation } in
    let turn : IsTurn 0 old mid at key aim.lefts p aim.rights [] = record { below = c.requires.below; way = aim.way; done = leaf_gone old mid at key p c.in-None.ensures.edit c.in-None.ensures.items c.in-None.ensures.blocks } in
    turn_node 0 old mid at key aim.lefts p aim.rights [] turn

pub drop_child-requires-clause-within : goal.drop_child-requires-clause-within
drop_child-requires-clause-within c =
    let old = c.args.table.now in
    let mid = c.shrink_leaf.new.table in
    let at = c.args.at.0 in
    let key = c.args.key.now in
    let place = c.child_place-place.result in
    let aim = aimed 0 old at key place c.node_child.result.0.0 c.node_child.result.1 c.requires.below c.child_place-place.ensures c.node_child.ensures in
    let p : Pointer = record { key = aim.first; at = c.node_child.result.0.0; generation = aim.generation } in
    let turn : IsTurn 0 old mid at key aim.lefts p aim.rights [] = record { below = c.requires.below; way = aim.way; done = leaf_gone old mid at key p c.in-None.ensures.edit c.in-None.ensures.items c.in-None.ensures.blocks } in
    omega (arith, turn_inside 0 old mid at key aim.lefts p aim.rights [] turn, aim.long)

pub drop_child-requires-clause-least : goal.drop_child-requires-clause-least
drop_child-requires-clause-least c =
    let old = c.args.table.now in
    let mid = c.shrink_leaf.new.table in
    let at = c.args.at.0 in
    let key = c.args.key.now in
    let place = c.child_place-place.result in
    let aim = aimed 0 old at key place c.node_child.result.0.0 c.node_child.result.1 c.requires.below c.child_place-place.ensures c.node_child.ensures in
    let p : Pointer = record { key = aim.first; at = c.node_child.result.0.0; generation = aim.generation } in
    let turn : IsTurn 0 old mid at key aim.lefts p aim.rights [] = record { below = c.requires.below; way = aim.way; done = leaf_gone old mid at key p c.in-None.ensures.edit c.in-None.ensures.items c.in-None.ensures.blocks } in
    turn_least 0 old mid at key aim.lefts p aim.rights [] turn

pub change_child-requires-clause-node : goal.change_child-requires-clause-node
change_child-requires-clause-node c =
    let old = c.args.table.now in
    let mid = c.shrink_leaf.new.table in
    let at = c.args.at.0 in
    let key = c.args.key.now in
    let place = c.child_place-place.result in
    let aim = aimed 0 old at key place c.node_child.result.0.0 c.node_child.result.1 c.requires.below c.child_place-place.ensures c.node_child.ensures in
    let p : Pointer = record { key = aim.first; at = c.node_child.result.0.0; generation = aim.generation } in
    let q : Pointer = record { key = c.leaf_key-first.result; at = c.in-Some.leaf.0; generation = 0 } in
    let turn : IsTurn 0 old mid at key aim.lefts p aim.rights (q ∷ []) = record { below = c.requires.below; way = aim.way; done = leaf_less old mid key p q c.in-Some.ensures.edit c.in-Some.ensures.items c.in-Some.ensures.blocks (All-head (λ (a : ℕ). (block_at mid a).state ≡ Dirty) q.at [] c.in-Some.ensures.dirty) } in
    turn_node 0 old mid at key aim.lefts p aim.rights (q ∷ []) turn

pub change_child-requires-clause-within : goal.change_child-requires-clause-within
change_child-requires-clause-within c =
    let old = c.args.table.now in
    let mid = c.shrink_leaf.new.table in
    let at = c.args.at.0 in
    let key = c.args.key.now in
    let place = c.child_place-place.result in
    let aim = aimed 0 old at key place c.node_child.result.0.0 c.node_child.result.1 c.requires.below c.child_place-place.ensures c.node_child.ensures in
    let p : Pointer = record { key = aim.first; at = c.node_child.result.0.0; generation = aim.generation } in
    let q : Pointer = record { key = c.leaf_key-first.result; at = c.in-Some.leaf.0; generation = 0 } in
    let turn : IsTurn 0 old mid at key aim.lefts p aim.rights (q ∷ []) = record { below = c.requires.below; way = aim.way; done = leaf_less old mid key p q c.in-Some.ensures.edit c.in-Some.ensures.items c.in-Some.ensures.blocks (All-head (λ (a : ℕ). (block_at mid a).state ≡ Dirty) q.at [] c.in-Some.ensures.dirty) } in
    omega (arith, turn_inside 0 old mid at key aim.lefts p aim.rights (q ∷ []) turn, aim.long)

pub change_child-requires-clause-least : goal.change_child-requires-clause-least
change_child-requires-clause-least c =
    let old = c.args.table.now in
    let mid = c.shrink_leaf.new.table in
    let at = c.args.at.0 in
    let key = c.args.key.now in
    let place = c.child_place-place.result in
    let aim = aimed 0 old at key place c.node_child.result.0.0 c.node_child.result.1 c.requires.below c.child_place-place.ensures c.node_child.ensures in
    let p : Pointer = record { key = aim.first; at = c.node_child.result.0.0; generation = aim.generation } in
    let q : Pointer = record { key = c.leaf_key-first.result; at = c.in-Some.leaf.0; generation = 0 } in
    let turn : IsTurn 0 old mid at key aim.lefts p aim.rights (q ∷ []) = record { below = c.requires.below; way = aim.way; done = leaf_less old mid key p q c.in-Some.ensures.edit c.in-Some.ensures.items c.in-Some.ensures.blocks (All-head (λ (a : ℕ). (block_at mid a).state ≡ Dirty) q.at [] c.in-Some.ensures.dirty) } in
    turn_least 0 old mid at key aim.lefts p aim.rights (q ∷ []) turn

pub leaf_key-first-requires-clause-taken : goal.leaf_key-first-requires-clause-taken
leaf_key-first-requires-clause-taken c =
    let leaf = All-head (IsSubtree 0 c.shrink_leaf.new.table false) c.in-Some.leaf.0 [] c.in-Some.ensures.leaf in
    leaf.0.taken

pub leaf_key-first-requires-clause-leaf : goal.leaf_key-first-requires-clause-leaf
leaf_key-first-requires-clause-leaf c =
    let leaf = All-head (IsSubtree 0 c.shrink_leaf.new.table false) c.in-Some.leaf.0 [] c.in-Some.ensures.leaf in
    leaf_from_ok (block_at c.shrink_leaf.new.table c.in-Some.leaf.0).bytes leaf.1

pub leaf_key-first-requires-clause-within : goal.leaf_key-first-requires-clause-within
leaf_key-first-requires-clause-within c =
    let leaf = All-head (IsSubtree 0 c.shrink_leaf.new.table false) c.in-Some.leaf.0 [] c.in-Some.ensures.leaf in
    omega (arith, leaf.2, ap (λ (l : List Item). length l) (leaf_same c.shrink_leaf.new.table c.in-Some.leaf.0))

pub change_child-requires-clause-order : goal.change_child-requires-clause-order
change_child-requires-clause-order c =
    let old = c.args.table.now in
    let mid = c.shrink_leaf.new.table in
    let at = c.args.at.0 in
    let key = c.args.key.now in
    let place = c.child_place-place.result in
    let aim = aimed 0 old at key place c.node_child.result.0.0 c.node_child.result.1 c.requires.below c.child_place-place.ensures c.node_child.ensures in
    let p : Pointer = record { key = aim.first; at = c.node_child.result.0.0; generation = aim.generation } in
    let q : Pointer = record { key = c.leaf_key-first.result; at = c.in-Some.leaf.0; generation = 0 } in
    let turn : IsTurn 0 old mid at key aim.lefts p aim.rights (q ∷ []) = record { below = c.requires.below; way = aim.way; done = leaf_less old mid key p q c.in-Some.ensures.edit c.in-Some.ensures.items c.in-Some.ensures.blocks (All-head (λ (a : ℕ). (block_at mid a).state ≡ Dirty) q.at [] c.in-Some.ensures.dirty) } in
    let first : first_key (leaf_items mid q.at) ≡ Some q.key = first_read (leaf_items mid q.at) q.key (ap (λ (l : List Item). slice_get (keys_of l) 0) (leaf_same mid q.at) ∙ c.leaf_key-first.ensures) in
    subst (λ (n : ℕ). IsPlace (pointer_keys (remove (node_at mid at) n)) q.key n) aim.long (turn_order 0 old mid at key aim.lefts p aim.rights q turn first)

pub returns-in-None : goal.returns-in-None
returns-in-None c =
    let old = c.args.table.now in
    let mid = c.shrink_leaf.new.table in
    let at = c.args.at.0 in
    let key = c.args.key.now in
    let place = c.child_place-place.result in
    let aim = aimed 0 old at key place c.node_child.result.0.0 c.node_child.result.1 c.requires.below c.child_place-place.ensures c.node_child.ensures in
    let p : Pointer = record { key = aim.first; at = c.node_child.result.0.0; generation = aim.generation } in
    let turn : IsTurn 0 old mid at key aim.lefts p aim.rights [] = record { below = c.requires.below; way = aim.way; done = leaf_gone old mid at key p c.in-None.ensures.edit c.in-None.ensures.items c.in-None.ensures.blocks } in
    let pointers : node_at c.drop_child.new.table c.drop_child.result.0 ≡ aim.lefts ++ aim.rights = c.drop_child.ensures.pointers ∙ ap (λ (n : ℕ). remove (node_at mid at) n) (sym aim.long) ∙ turn_removed 0 old mid at key aim.lefts p aim.rights [] turn in
    less_node 0 old mid at key aim.lefts p aim.rights [] turn c.drop_child.new.table c.drop_child.result.0 c.drop_child.ensures.edit c.drop_child.ensures.node c.drop_child.ensures.allowed pointers 0 c.in-None.ensures.blocks c.drop_child.ensures.blocks (omega arith) (omega (arith, c.in-None.ensures.balance, c.drop_child.ensures.balance)) (All-nil (IsChildOf 0 mid))

pub returns-in-Some : goal.returns-in-Some
returns-in-Some c =
    let old = c.args.table.now in
    let mid = c.shrink_leaf.new.table in
    let at = c.args.at.0 in
    let key = c.args.key.now in
    let place = c.child_place-place.result in
    let aim = aimed 0 old at key place c.node_child.result.0.0 c.node_child.result.1 c.requires.below c.child_place-place.ensures c.node_child.ensures in
    let p : Pointer = record { key = aim.first; at = c.node_child.result.0.0; generation = aim.generation } in
    let q : Pointer = record { key = c.leaf_key-first.result; at = c.in-Some.leaf.0; generation = 0 } in
    let turn : IsTurn 0 old mid at key aim.lefts p aim.rights (q ∷ []) = record { below = c.requires.below; way = aim.way; done = leaf_less old mid key p q c.in-Some.ensures.edit c.in-Some.ensures.items c.in-Some.ensures.blocks (All-head (λ (a : ℕ). (block_at mid a).state ≡ Dirty) q.at [] c.in-Some.ensures.dirty) } in
    let first : first_key (leaf_items mid q.at) ≡ Some q.key = first_read (leaf_items mid q.at) q.key (ap (λ (l : List Item). slice_get (keys_of l) 0) (leaf_same mid q.at) ∙ c.leaf_key-first.ensures) in
    let leaf = All-head (IsSubtree 0 c.shrink_leaf.new.table false) c.in-Some.leaf.0 [] c.in-Some.ensures.leaf in
    let pointers : node_at c.change_child.new.table c.change_child.result.0 ≡ aim.lefts ++ q ∷ aim.rights = c.change_child.ensures.pointers ∙ ap (λ (n : ℕ). insert (remove (node_at mid at) n) n q) (sym aim.long) ∙ turn_inserted 0 old mid at key aim.lefts p aim.rights (q ∷ []) turn q in
    less_node 0 old mid at key aim.lefts p aim.rights (q ∷ []) turn c.change_child.new.table c.change_child.result.0 c.change_child.ensures.edit c.change_child.ensures.node c.change_child.ensures.allowed pointers 1 c.in-Some.ensures.blocks c.change_child.ensures.blocks (omega arith) (omega (arith, c.in-Some.ensures.balance, c.change_child.ensures.balance)) (All-cons (IsChildOf 0 mid) q [] (leaf, first) (All-nil (IsChildOf 0 mid)))
