use Rattle.std.proofs.Common.{refl}
use Rattle.table_volume.proofs.Giving.{subvolume_taken}
use Rattle.inode_removal.proofs.Gone.{IsCut, current_mid, gives_now, offsets_small, room_free, room_spare, sub_edit, tree_mid}
use Rattle.inode_removal.proofs.remove.remove_inode.Goals as goal

pub let_go_between-requires-clause-offsets : goal.let_go_between-requires-clause-offsets
let_go_between-requires-clause-offsets c =
    let may = c.requires.may in
    offsets_small c.args.table.now c.args.sub.now.tree may.0 c.args.ino.0 may.1 may.2

pub let_go_between-requires-clause-taken : goal.let_go_between-requires-clause-taken
let_go_between-requires-clause-taken c =
    let may = c.requires.may in
    subvolume_taken c.args.table.now c.args.sub.now.tree may.0 may.1

pub delete_range-requires-clause-tree : goal.delete_range-requires-clause-tree
delete_range-requires-clause-tree c =
    let may = c.requires.may in
    tree_mid c.args.table.now c.let_go_between.new.table c.args.sub.now.tree may.0 c.args.ino.0 may.1 may.2 c.let_go_between.ensures

pub delete_range-requires-clause-current : goal.delete_range-requires-clause-current
delete_range-requires-clause-current c =
    let may = c.requires.may in
    current_mid c.args.table.now c.let_go_between.new.table c.args.sub.now.tree may.0 c.args.ino.0 may.1 may.2 c.let_go_between.ensures

pub delete_range-requires-clause-spare : goal.delete_range-requires-clause-spare
delete_range-requires-clause-spare c =
    let may = c.requires.may in
    room_spare c.args.table.now c.let_go_between.new.table c.args.sub.now.tree may.0 c.args.ino.0 may.1 may.2 c.let_go_between.ensures may.3.spare

pub delete_range-requires-clause-free : goal.delete_range-requires-clause-free
delete_range-requires-clause-free c =
    let may = c.requires.may in
    room_free c.args.table.now c.let_go_between.new.table c.args.sub.now.tree may.0 c.args.ino.0 may.1 may.2 c.let_go_between.ensures may.3.free

pub returns-clause-made : goal.returns-clause-made
returns-clause-made c = λ s gives may.
    let e = c.delete_range.ensures in
    let cut : IsCut c.let_go_between.new.table c.delete_range.new.table c.args.sub.now.tree c.delete_range.new.tree c.args.ino.0 = record {
      tree = e.tree;
      items = e.items;
      owner = e.owner;
      edit = e.edit;
      current = e.current;
      blocks = e.blocks;
      sealed = e.sealed;
    } in
    record {
      gives = gives_now c.args.table.now c.let_go_between.new.table c.args.sub.now.tree s c.args.ino.0 gives may c.let_go_between.ensures c.delete_range.new.table c.delete_range.new.tree cut;
      edit = sub_edit c.args.table.now c.let_go_between.new.table c.args.sub.now.tree s c.args.ino.0 gives may c.let_go_between.ensures c.delete_range.new.table c.delete_range.new.tree cut c.args.sub.now refl;
    }
