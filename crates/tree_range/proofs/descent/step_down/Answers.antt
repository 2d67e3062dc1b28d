use Rattle.tree_range.proofs.Children.{child_inside, is_child}
use Rattle.tree_range.proofs.descent.step_down.Goals as goal

pub child-requires : goal.child-requires
child-requires c = child_inside c.args.node.now c.args.key.now c.child_place-place.result c.child_place-place.ensures

pub key_after-requires : goal.key_after-requires
key_after-requires c = child_inside c.args.node.now c.args.key.now c.child_place-place.result c.child_place-place.ensures

pub returns : goal.returns
returns c =
    is_child c.args.node.now c.args.key.now c.args.next c.child_place-place.result c.child.result.0.0 c.child.result.1 c.key_after.result c.child_place-place.ensures c.child.ensures c.key_after.ensures
