use Rattle.std.proofs.Common.{◌<◌, arith}
use Rattle.cow_tree.specs.Pieces.{pointers_of}
use Rattle.cow_tree.proofs.Below.{below_writable, leaf_below, leaf_editable, mid_order, mid_ready, mid_within, node_below, node_ready}
use Rattle.tree_range.proofs.Children.{child_inside}
use Rattle.tree_blocks.specs.Steps.{node_at}
use Rattle.cow_tree.proofs.Nodes.{most_pieces, some_pieces}
use Rattle.cow_tree.proofs.write.+write_below.Goals as goal

pub write_in_leaf-requires : goal.write_in_leaf-requires
write_in_leaf-requires t c =
    let h = leaf_editable c.args.level c.args.table.now c.args.at.0 (omega (arith, c.if-level-eq0.true)) c.requires.writable in
    record { taken = h.0.taken; current = h.0.current; leaf = h.1; short = c.requires.short; spare = omega (arith, c.requires.spare); free = omega (arith, c.requires.free) }

pub returns-then-level-eq0 : goal.returns-then-level-eq0
returns-then-level-eq0 t c =
    leaf_below c.args.level c.args.table.now c.write_in_leaf.new.table c.args.at.0 c.args.key c.args.bytes.now (pointers_of c.write_in_leaf.result) (omega (arith, c.if-level-eq0.true)) c.requires.writable (some_pieces c.write_in_leaf.result) (most_pieces c.write_in_leaf.result) c.write_in_leaf.ensures.spread c.write_in_leaf.ensures.fits

pub child_place-place-requires : goal.child_place-place-requires
child_place-place-requires t c =
    let h = node_ready c.args.level c.args.table.now c.args.at.0 (omega (arith, c.if-level-eq0.false)) c.requires.writable in
    record { taken = h.block.taken; node = h.node }

pub node_child-requires : goal.node_child-requires
node_child-requires t c =
    let h = node_ready c.args.level c.args.table.now c.args.at.0 (omega (arith, c.if-level-eq0.false)) c.requires.writable in
    record { taken = h.block.taken; node = h.node; within = child_inside (node_at c.args.table.now c.args.at.0) c.args.key c.child_place-place.result c.child_place-place.ensures }

pub write_below-pieces-requires : goal.write_below-pieces-requires
write_below-pieces-requires t c =
    let high : 0 < c.args.level = omega (arith, c.if-level-eq0.false) in (
      omega (arith, c.if-level-eq0.false),
      (
        below_writable c.args.level c.args.table.now c.args.at.0 c.args.key c.child_place-place.result c.node_child.result.0.0 c.node_child.result.1 high c.requires.writable c.child_place-place.ensures c.node_child.ensures,
        (c.requires.short, (omega (arith, c.requires.spare, high), omega (arith, c.requires.free, high))),
      ),
    )

pub write_in_node-requires : goal.write_in_node-requires
write_in_node-requires t c =
    let high : 0 < c.args.level = omega (arith, c.if-level-eq0.false) in
    let mid = c.write_below-pieces.new.table in
    let pieces = pointers_of c.write_below-pieces.result in
    let ready = mid_ready c.args.level c.args.table.now c.args.at.0 c.args.key c.child_place-place.result c.node_child.result.0.0 c.node_child.result.1 high c.requires.writable c.child_place-place.ensures c.node_child.ensures mid c.args.bytes.now pieces c.write_below-pieces.ensures in
    record {
      taken = ready.block.taken;
      current = ready.block.current;
      node = ready.node;
      within = mid_within c.args.level c.args.table.now c.args.at.0 c.args.key c.child_place-place.result c.node_child.result.0.0 c.node_child.result.1 high c.requires.writable c.child_place-place.ensures c.node_child.ensures mid c.args.bytes.now pieces c.write_below-pieces.ensures;
      least = ready.least;
      order = mid_order c.args.level c.args.table.now c.args.at.0 c.args.key c.child_place-place.result c.node_child.result.0.0 c.node_child.result.1 high c.requires.writable c.child_place-place.ensures c.node_child.ensures mid c.args.bytes.now pieces c.write_below-pieces.ensures;
      spare = omega (arith, c.requires.spare, high, c.write_below-pieces.ensures.changes.spare);
      free = omega (arith, c.requires.free, high, c.write_below-pieces.ensures.changes.free);
    }

pub returns : goal.returns
returns t c =
    let high : 0 < c.args.level = omega (arith, c.if-level-eq0.false) in
    let mid = c.write_below-pieces.new.table in
    let pieces = pointers_of c.write_below-pieces.result in
    node_below c.args.level c.args.table.now c.args.at.0 c.args.key c.child_place-place.result c.node_child.result.0.0 c.node_child.result.1 high c.requires.writable c.child_place-place.ensures c.node_child.ensures mid c.args.bytes.now pieces c.write_below-pieces.ensures c.write_in_node.new.table (pointers_of c.write_in_node.result) (some_pieces c.write_in_node.result) (most_pieces c.write_in_node.result) c.write_in_node.ensures
