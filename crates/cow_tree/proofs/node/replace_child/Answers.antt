use Rattle.std.proofs.Common.{◌≡◌, ◌++◌, [], ◌∷◌, true, suc, length, take, drop, ap, subst, arith}
use Rattle.blk_base.specs.Keys.{keys_rise}
use Rattle.leaf_view.specs.Search.{pointer_keys}
use Rattle.tree_blocks.specs.Lists.{pointer_to}
use Rattle.tree_blocks.specs.Steps.{node_at}
use Rattle.cow_tree.specs.declared.pieces.Pieces.{Pieces}
use Rattle.cow_tree.specs.Pieces.{pointers_of, spliced}
use Rattle.cow_tree.proofs.Changes.{join_lists}
use Rattle.cow_tree.proofs.Nodes.{first_rises, length_put, length_rest, put_first}
use Rattle.cow_tree.proofs.Pointers.{rise_but_one}
use Rattle.cow_tree.proofs.Steps.{rewritten}
use Rattle.cow_tree.proofs.node.replace_child.Goals as goal

pub put_child-requires-in-Two-clause-order : goal.put_child-requires-in-Two-clause-order
put_child-requires-in-Two-clause-order c =
    let ps = node_at c.args.table.now c.args.at.0 in
    let place = c.args.place in
    let a = pointer_to c.in-Two.first in
    let b = pointer_to c.in-Two.second in
    let r = drop (suc place) ps in
    let order : keys_rise (pointer_keys (take place ps ++ a ∷ b ∷ r)) ≡ true = subst (λ (p : Pieces). keys_rise (pointer_keys (spliced ps place (pointers_of p))) ≡ true) c.in-Two.is c.requires.order in
    first_rises ps place (node_at c.node_remove.new.table c.args.at.0) r b c.requires.within c.node_remove.ensures.pointers (rise_but_one (take place ps) a (b ∷ r) order)

pub put_child-requires-in-Two-2-clause-room : goal.put_child-requires-in-Two-2-clause-room
put_child-requires-in-Two-2-clause-room c =
    let ps = node_at c.args.table.now c.args.at.0 in
    let place = c.args.place in
    let b = pointer_to c.in-Two.second in
    let r = drop (suc place) ps in
    let before = node_at c.put_child-in-Two.new.table c.args.at.0 in
    let shown : before ≡ take place ps ++ b ∷ r = put_first ps place (node_at c.node_remove.new.table c.args.at.0) before r b c.requires.within c.node_remove.ensures.pointers c.put_child-in-Two.ensures.pointers in
    omega (arith, length_put ps place before (b ∷ r) c.requires.within shown, length_rest ps place c.requires.within, c.requires.room, ap (λ (p : Pieces). length (pointers_of p)) c.in-Two.is)

pub put_child-requires-in-Three-clause-order : goal.put_child-requires-in-Three-clause-order
put_child-requires-in-Three-clause-order c =
    let ps = node_at c.args.table.now c.args.at.0 in
    let place = c.args.place in
    let x = pointer_to c.in-Three.first in
    let y = pointer_to c.in-Three.second in
    let z = pointer_to c.in-Three.third in
    let r = drop (suc place) ps in
    let order : keys_rise (pointer_keys (take place ps ++ x ∷ y ∷ z ∷ r)) ≡ true = subst (λ (p : Pieces). keys_rise (pointer_keys (spliced ps place (pointers_of p))) ≡ true) c.in-Three.is c.requires.order in
    first_rises ps place (node_at c.node_remove.new.table c.args.at.0) r z c.requires.within c.node_remove.ensures.pointers (rise_but_one (take place ps) y (z ∷ r) (rise_but_one (take place ps) x (y ∷ z ∷ r) order))

pub put_child-requires-in-Three-2-clause-room : goal.put_child-requires-in-Three-2-clause-room
put_child-requires-in-Three-2-clause-room c =
    let ps = node_at c.args.table.now c.args.at.0 in
    let place = c.args.place in
    let z = pointer_to c.in-Three.third in
    let r = drop (suc place) ps in
    let before = node_at c.put_child-in-Three.new.table c.args.at.0 in
    let shown : before ≡ take place ps ++ z ∷ r = put_first ps place (node_at c.node_remove.new.table c.args.at.0) before r z c.requires.within c.node_remove.ensures.pointers c.put_child-in-Three.ensures.pointers in
    omega (arith, length_put ps place before (z ∷ r) c.requires.within shown, length_rest ps place c.requires.within, c.requires.room, ap (λ (p : Pieces). length (pointers_of p)) c.in-Three.is)

pub put_child-requires-in-Three-2-clause-order : goal.put_child-requires-in-Three-2-clause-order
put_child-requires-in-Three-2-clause-order c =
    let ps = node_at c.args.table.now c.args.at.0 in
    let place = c.args.place in
    let x = pointer_to c.in-Three.first in
    let y = pointer_to c.in-Three.second in
    let z = pointer_to c.in-Three.third in
    let r = drop (suc place) ps in
    let before = node_at c.put_child-in-Three.new.table c.args.at.0 in
    let shown : before ≡ take place ps ++ z ∷ r = put_first ps place (node_at c.node_remove.new.table c.args.at.0) before r z c.requires.within c.node_remove.ensures.pointers c.put_child-in-Three.ensures.pointers in
    let order : keys_rise (pointer_keys (take place ps ++ x ∷ y ∷ z ∷ r)) ≡ true = subst (λ (p : Pieces). keys_rise (pointer_keys (spliced ps place (pointers_of p))) ≡ true) c.in-Three.is c.requires.order in
    first_rises ps place before (z ∷ r) y c.requires.within shown (rise_but_one (take place ps) x (y ∷ z ∷ r) order)

pub put_child-requires-in-Three-3-clause-room : goal.put_child-requires-in-Three-3-clause-room
put_child-requires-in-Three-3-clause-room c =
    let ps = node_at c.args.table.now c.args.at.0 in
    let place = c.args.place in
    let y = pointer_to c.in-Three.second in
    let z = pointer_to c.in-Three.third in
    let r = drop (suc place) ps in
    let one = node_at c.put_child-in-Three.new.table c.args.at.0 in
    let two = node_at c.put_child-in-Three-2.new.table c.args.at.0 in
    let shown : one ≡ take place ps ++ z ∷ r = put_first ps place (node_at c.node_remove.new.table c.args.at.0) one r z c.requires.within c.node_remove.ensures.pointers c.put_child-in-Three.ensures.pointers in
    let next : two ≡ take place ps ++ y ∷ z ∷ r = put_first ps place one two (z ∷ r) y c.requires.within shown c.put_child-in-Three-2.ensures.pointers in
    omega (arith, length_put ps place two (y ∷ z ∷ r) c.requires.within next, length_rest ps place c.requires.within, c.requires.room, ap (λ (p : Pieces). length (pointers_of p)) c.in-Three.is)

pub returns-in-Three-clause-changes : goal.returns-in-Three-clause-changes
returns-in-Three-clause-changes c =
    let old = c.args.table.now in
    let one = c.node_remove.new.table in
    let two = c.put_child-in-Three.new.table in
    let three = c.put_child-in-Three-2.new.table in
    let new = c.put_child-in-Three-3.new.table in
    let here = c.args.at.0 ∷ [] in
    let out = c.node_remove.ensures in
    let removed = rewritten old one c.args.at.0 c.requires.node.dirty out.kept out.others out.spare out.free in
    join_lists old three new here here here 0 0 (join_lists old two three here here here 0 0 (join_lists old one two here here here 0 0 removed c.put_child-in-Three.ensures.changes) c.put_child-in-Three-2.ensures.changes) c.put_child-in-Three-3.ensures.changes
