use Rattle.std.proofs.Common.{◌∷◌, Option, subst, arith}
use Rattle.blk_base.specs.declared.key.Addr.{Addr}
use Rattle.tree_delete.specs.Rows.{kept_of}
use Rattle.tree_delete.specs.Steps.{IsShared}
use Rattle.tree_delete.proofs.Even.{even_inside, even_node, even_one, even_two, left_child, pair_here, pair_inside, right_child, right_order, right_pair, shared_here, then_room}
use Rattle.tree_delete.proofs.Pairs.{node_most}
use Rattle.tree_delete.proofs.pair.even_out.Goals as goal

pub overflow_add-place : goal.overflow_add-place
overflow_add-place c = omega (arith, pair_inside c.args.table.now c.args.at.0 c.args.place c.requires.pair, node_most c.args.table.now c.args.at.0 c.requires.pair.node.body)

pub share-right-requires-clause-pair : goal.share-right-requires-clause-pair
share-right-requires-clause-pair c =
    let h = c.requires.pair in
    let left = left_child c.args.table.now c.args.at.0 c.args.place h c.node_child.result.0.0 c.node_child.result.1 c.node_child.ensures in
    let right = right_child c.args.table.now c.args.at.0 c.args.place h c.node_child-2.result.0.0 c.node_child-2.result.1 c.node_child-2.ensures in
    pair_here c.args.table.now c.args.at.0 c.args.place h c.node_child.result.0.0 c.node_child-2.result.0.0 left right

pub point_left-requires-clause-node : goal.point_left-requires-clause-node
point_left-requires-clause-node c =
    let h = c.requires.pair in
    let left = left_child c.args.table.now c.args.at.0 c.args.place h c.node_child.result.0.0 c.node_child.result.1 c.node_child.ensures in
    let right = right_child c.args.table.now c.args.at.0 c.args.place h c.node_child-2.result.0.0 c.node_child-2.result.1 c.node_child-2.ensures in
    let made = c.share-right.result.0.0 ∷ kept_of c.share-right.result.1 in
    let shared = shared_here c.args.table.now c.share-right.new.table c.args.at.0 c.args.place h c.node_child.result.0.0 c.node_child-2.result.0.0 made left right c.share-right.ensures in
    even_node c.args.table.now c.share-right.new.table c.args.at.0 c.args.place h made shared

pub point_left-requires-clause-within : goal.point_left-requires-clause-within
point_left-requires-clause-within c =
    let h = c.requires.pair in
    let left = left_child c.args.table.now c.args.at.0 c.args.place h c.node_child.result.0.0 c.node_child.result.1 c.node_child.ensures in
    let right = right_child c.args.table.now c.args.at.0 c.args.place h c.node_child-2.result.0.0 c.node_child-2.result.1 c.node_child-2.ensures in
    let made = c.share-right.result.0.0 ∷ kept_of c.share-right.result.1 in
    let shared = shared_here c.args.table.now c.share-right.new.table c.args.at.0 c.args.place h c.node_child.result.0.0 c.node_child-2.result.0.0 made left right c.share-right.ensures in
    even_inside c.args.table.now c.share-right.new.table c.args.at.0 c.args.place h made shared

pub overflow_add-place-in-Some : goal.overflow_add-place-in-Some
overflow_add-place-in-Some c = omega (arith, pair_inside c.args.table.now c.args.at.0 c.args.place c.requires.pair, node_most c.args.table.now c.args.at.0 c.requires.pair.node.body)

pub put_right-requires-clause-pair : goal.put_right-requires-clause-pair
put_right-requires-clause-pair c =
    let old = c.args.table.now in
    let mid = c.share-right.new.table in
    let h = c.requires.pair in
    let left = left_child old c.args.at.0 c.args.place h c.node_child.result.0.0 c.node_child.result.1 c.node_child.ensures in
    let right = right_child old c.args.at.0 c.args.place h c.node_child-2.result.0.0 c.node_child-2.result.1 c.node_child-2.ensures in
    let made = c.share-right.result.0.0 ∷ kept_of c.share-right.result.1 in
    let shared = shared_here old mid c.args.at.0 c.args.place h c.node_child.result.0.0 c.node_child-2.result.0.0 made left right c.share-right.ensures in
    let both = subst (λ (o : Option Addr). IsShared old mid h.left.at h.right.at (c.share-right.result.0.0 ∷ kept_of o)) c.in-Some.is shared in
    right_pair old mid c.point_left.new.table c.args.at.0 c.args.place c.share-right.result.0.0 c.in-Some.right.0 h both c.point_left.ensures.edit c.point_left.ensures.node c.point_left.ensures.pointers

pub put_right-requires-clause-room : goal.put_right-requires-clause-room
put_right-requires-clause-room c =
    let old = c.args.table.now in
    let mid = c.share-right.new.table in
    let h = c.requires.pair in
    let left = left_child old c.args.at.0 c.args.place h c.node_child.result.0.0 c.node_child.result.1 c.node_child.ensures in
    let right = right_child old c.args.at.0 c.args.place h c.node_child-2.result.0.0 c.node_child-2.result.1 c.node_child-2.ensures in
    let made = c.share-right.result.0.0 ∷ kept_of c.share-right.result.1 in
    let shared = shared_here old mid c.args.at.0 c.args.place h c.node_child.result.0.0 c.node_child-2.result.0.0 made left right c.share-right.ensures in
    then_room old mid c.args.at.0 c.args.place h made shared c.point_left.new.table c.share-right.result.0.0 c.point_left.ensures.edit c.point_left.ensures.node c.point_left.ensures.pointers

pub put_right-requires-clause-order : goal.put_right-requires-clause-order
put_right-requires-clause-order c =
    let old = c.args.table.now in
    let mid = c.share-right.new.table in
    let h = c.requires.pair in
    let left = left_child old c.args.at.0 c.args.place h c.node_child.result.0.0 c.node_child.result.1 c.node_child.ensures in
    let right = right_child old c.args.at.0 c.args.place h c.node_child-2.result.0.0 c.node_child-2.result.1 c.node_child-2.ensures in
    let made = c.share-right.result.0.0 ∷ kept_of c.share-right.result.1 in
    let shared = shared_here old mid c.args.at.0 c.args.place h c.node_child.result.0.0 c.node_child-2.result.0.0 made left right c.share-right.ensures in
    let both = subst (λ (o : Option Addr). IsShared old mid h.left.at h.right.at (c.share-right.result.0.0 ∷ kept_of o)) c.in-Some.is shared in
    right_order old mid c.point_left.new.table c.args.at.0 c.args.place c.share-right.result.0.0 c.in-Some.right.0 h both c.point_left.ensures.edit c.point_left.ensures.node c.point_left.ensures.pointers

pub returns-in-None : goal.returns-in-None
returns-in-None c = λ h.
    let old = c.args.table.now in
    let mid = c.share-right.new.table in
    let left = left_child old c.args.at.0 c.args.place h c.node_child.result.0.0 c.node_child.result.1 c.node_child.ensures in
    let right = right_child old c.args.at.0 c.args.place h c.node_child-2.result.0.0 c.node_child-2.result.1 c.node_child-2.ensures in
    let made = c.share-right.result.0.0 ∷ kept_of c.share-right.result.1 in
    let shared = shared_here old mid c.args.at.0 c.args.place h c.node_child.result.0.0 c.node_child-2.result.0.0 made left right c.share-right.ensures in
    let one = subst (λ (o : Option Addr). IsShared old mid h.left.at h.right.at (c.share-right.result.0.0 ∷ kept_of o)) c.in-None.is shared in
    even_one old mid c.point_left.new.table c.args.at.0 c.args.place c.share-right.result.0.0 h one c.point_left.ensures.edit c.point_left.ensures.node c.point_left.ensures.pointers c.point_left.ensures.spare c.point_left.ensures.free

pub returns-in-Some : goal.returns-in-Some
returns-in-Some c = λ h.
    let old = c.args.table.now in
    let mid = c.share-right.new.table in
    let left = left_child old c.args.at.0 c.args.place h c.node_child.result.0.0 c.node_child.result.1 c.node_child.ensures in
    let right = right_child old c.args.at.0 c.args.place h c.node_child-2.result.0.0 c.node_child-2.result.1 c.node_child-2.ensures in
    let made = c.share-right.result.0.0 ∷ kept_of c.share-right.result.1 in
    let shared = shared_here old mid c.args.at.0 c.args.place h c.node_child.result.0.0 c.node_child-2.result.0.0 made left right c.share-right.ensures in
    let both = subst (λ (o : Option Addr). IsShared old mid h.left.at h.right.at (c.share-right.result.0.0 ∷ kept_of o)) c.in-Some.is shared in
    even_two old mid c.point_left.new.table c.args.at.0 c.args.place c.share-right.result.0.0 c.in-Some.right.0 h both c.point_left.ensures.edit c.point_left.ensures.node c.point_left.ensures.pointers c.put_right.new.table c.point_left.ensures.spare c.point_left.ensures.free c.put_right.ensures.edit c.put_right.ensures.node c.put_right.ensures.pointers c.put_right.ensures.spare c.put_right.ensures.free
