use Rattle.std.proofs.Common.{◌≤◌, ◌<◌, ◌+◌, ◌^◌, length, refl, subst, arith}
use Rattle.block_table.specs.declared.tree.Tree.{Tree}
use Rattle.tree_blocks.specs.Lists.{pointer_to}
use Rattle.cow_tree.specs.declared.pieces.Pieces.{Pieces}
use Rattle.cow_tree.specs.Below.{IsWritten}
use Rattle.cow_tree.specs.Pieces.{pointers_of}
use Rattle.cow_tree.proofs.Nodes.{several_pieces}
use Rattle.cow_tree.proofs.Root.{grown_root, one_root, pieces_rise, room_above, tree_writable}
use Rattle.cow_tree.proofs.edit.write.Goals as goal

pub returns-in-One : goal.returns-in-One
returns-in-One c =
    let old = c.args.table.now in
    let new = c.write_below-pieces.new.table in
    let was = c.args.tree.now in
    let only = c.in-One.only in
    let is : Tree = record { root = only.at; level = was.level; owner = was.owner } in
    let h = subst (λ (p : Pieces). IsWritten was.level old new was.root.0 c.args.key c.args.bytes.now (pointers_of p)) c.in-One.is c.write_below-pieces.ensures in
    one_root old new was is c.args.key c.args.bytes.now (pointer_to only) c.requires.tree c.requires.current refl refl refl h

pub node_over-tree-requires : goal.node_over-tree-requires
node_over-tree-requires c =
    let old = c.args.table.now in
    let mid = c.write_below-pieces.new.table in
    let was = c.args.tree.now in
    let h = c.write_below-pieces.ensures in
    let several : 2 ≤ length (pointers_of c.write_below-pieces.result) = several_pieces c.write_below-pieces.result c.in_default.not-One in
    let small : length old.slots < 2 ^ 32 = omega (arith, c.blocks-blocks.ensures, c.blocks-blocks.type_inv) in
    let low : was.level ≤ 6 = room_above old mid was c.args.key c.args.bytes.now (pointers_of c.write_below-pieces.result) c.requires.tree small h several in
    record {
      some = several;
      order = pieces_rise old mid was.level was.root.0 c.args.key c.args.bytes.now (pointers_of c.write_below-pieces.result) (tree_writable old was c.requires.tree c.requires.current) h;
      spare = omega (arith, h.changes.spare, c.requires.spare, low);
      free = omega (arith, h.changes.free, c.requires.free, low);
    }

pub returns : goal.returns
returns c =
    let old = c.args.table.now in
    let mid = c.write_below-pieces.new.table in
    let new = c.node_over-tree.new.table in
    let was = c.args.tree.now in
    let is : Tree = record { root = c.node_over-tree.result; level = was.level + 1; owner = was.owner } in
    let made = c.node_over-tree.ensures in
    let several : 2 ≤ length (pointers_of c.write_below-pieces.result) = several_pieces c.write_below-pieces.result c.in_default.not-One in
    let small : length old.slots < 2 ^ 32 = omega (arith, c.blocks-blocks.ensures, c.blocks-blocks.type_inv) in
    let low : was.level ≤ 6 = room_above old mid was c.args.key c.args.bytes.now (pointers_of c.write_below-pieces.result) c.requires.tree small c.write_below-pieces.ensures several in
    grown_root old mid new was is c.args.key c.args.bytes.now (pointers_of c.write_below-pieces.result) c.requires.tree c.requires.current refl (omega arith) (omega (arith, low)) several c.write_below-pieces.ensures made.node made.pointers made.changes
