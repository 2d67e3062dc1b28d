use Rattle.std.proofs.Common.{arith}
use Rattle.tree_delete.proofs.Blocks.{owned}
use Rattle.tree_delete.proofs.Leaves.{IsLeafCopy, copy_absent, copy_dirty, copy_found, copy_leaf, removed_count, removed_edit, removed_items}
use Rattle.tree_delete.proofs.leaf.delete_in_leaf.Goals as goal

pub leaf_find-requires-clause-leaf : goal.leaf_find-requires-clause-leaf
leaf_find-requires-clause-leaf c =
    let own = owned c.args.table.now c.own-copy.new.table c.args.at c.own-copy.result c.own-copy.ensures.same c.own-copy.ensures.table c.own-copy.ensures.copied in
    let copy : IsLeafCopy c.args.table.now c.own-copy.new.table c.args.at.0 c.own-copy.result.0 = record { own = own; dirty = c.own-copy.ensures.dirty; bytes = c.own-copy.ensures.bytes; shape = c.requires.leaf } in
    copy_leaf c.args.table.now c.own-copy.new.table c.args.at.0 c.own-copy.result.0 c.args.key.now copy

pub unreachable-requires : goal.unreachable-requires
unreachable-requires c =
    let own = owned c.args.table.now c.own-copy.new.table c.args.at c.own-copy.result c.own-copy.ensures.same c.own-copy.ensures.table c.own-copy.ensures.copied in
    let copy : IsLeafCopy c.args.table.now c.own-copy.new.table c.args.at.0 c.own-copy.result.0 = record { own = own; dirty = c.own-copy.ensures.dirty; bytes = c.own-copy.ensures.bytes; shape = c.requires.leaf } in
    copy_absent c.args.table.now c.own-copy.new.table c.args.at.0 c.own-copy.result.0 c.args.key.now copy c.in-Err.field-0 c.requires.present c.in-Err.ensures.absent

pub leaf_remove-requires-clause-leaf : goal.leaf_remove-requires-clause-leaf
leaf_remove-requires-clause-leaf c =
    let own = owned c.args.table.now c.own-copy.new.table c.args.at c.own-copy.result c.own-copy.ensures.same c.own-copy.ensures.table c.own-copy.ensures.copied in
    let copy : IsLeafCopy c.args.table.now c.own-copy.new.table c.args.at.0 c.own-copy.result.0 = record { own = own; dirty = c.own-copy.ensures.dirty; bytes = c.own-copy.ensures.bytes; shape = c.requires.leaf } in
    copy_dirty c.args.table.now c.own-copy.new.table c.args.at.0 c.own-copy.result.0 c.args.key.now copy

pub leaf_remove-requires-clause-within : goal.leaf_remove-requires-clause-within
leaf_remove-requires-clause-within c =
    let own = owned c.args.table.now c.own-copy.new.table c.args.at c.own-copy.result c.own-copy.ensures.same c.own-copy.ensures.table c.own-copy.ensures.copied in
    let copy : IsLeafCopy c.args.table.now c.own-copy.new.table c.args.at.0 c.own-copy.result.0 = record { own = own; dirty = c.own-copy.ensures.dirty; bytes = c.own-copy.ensures.bytes; shape = c.requires.leaf } in
    copy_found c.args.table.now c.own-copy.new.table c.args.at.0 c.own-copy.result.0 c.args.key.now copy c.in-Ok.place c.in-Ok.ensures.found

pub returns-clause-items : goal.returns-clause-items
returns-clause-items c =
    let own = owned c.args.table.now c.own-copy.new.table c.args.at c.own-copy.result c.own-copy.ensures.same c.own-copy.ensures.table c.own-copy.ensures.copied in
    let copy : IsLeafCopy c.args.table.now c.own-copy.new.table c.args.at.0 c.own-copy.result.0 = record { own = own; dirty = c.own-copy.ensures.dirty; bytes = c.own-copy.ensures.bytes; shape = c.requires.leaf } in
    removed_items c.args.table.now c.own-copy.new.table c.args.at.0 c.own-copy.result.0 c.args.key.now copy c.leaf_remove.new.table c.in-Ok.place c.in-Ok.ensures.found c.requires.rises c.leaf_remove.ensures.items c.leaf_remove.ensures.leaf c.leaf_remove.ensures.kept c.leaf_remove.ensures.others c.leaf_remove.ensures.spare c.leaf_remove.ensures.free

pub returns-clause-count : goal.returns-clause-count
returns-clause-count c =
    let own = owned c.args.table.now c.own-copy.new.table c.args.at c.own-copy.result c.own-copy.ensures.same c.own-copy.ensures.table c.own-copy.ensures.copied in
    let copy : IsLeafCopy c.args.table.now c.own-copy.new.table c.args.at.0 c.own-copy.result.0 = record { own = own; dirty = c.own-copy.ensures.dirty; bytes = c.own-copy.ensures.bytes; shape = c.requires.leaf } in
    removed_count c.args.table.now c.own-copy.new.table c.args.at.0 c.own-copy.result.0 c.args.key.now copy c.leaf_remove.new.table c.in-Ok.place c.in-Ok.ensures.found c.requires.rises c.leaf_remove.ensures.items c.leaf_remove.ensures.leaf c.leaf_remove.ensures.kept c.leaf_remove.ensures.others c.leaf_remove.ensures.spare c.leaf_remove.ensures.free

pub returns-clause-edit : goal.returns-clause-edit
returns-clause-edit c =
    let own = owned c.args.table.now c.own-copy.new.table c.args.at c.own-copy.result c.own-copy.ensures.same c.own-copy.ensures.table c.own-copy.ensures.copied in
    let copy : IsLeafCopy c.args.table.now c.own-copy.new.table c.args.at.0 c.own-copy.result.0 = record { own = own; dirty = c.own-copy.ensures.dirty; bytes = c.own-copy.ensures.bytes; shape = c.requires.leaf } in
    removed_edit c.args.table.now c.own-copy.new.table c.args.at.0 c.own-copy.result.0 c.args.key.now copy c.leaf_remove.new.table c.in-Ok.place c.in-Ok.ensures.found c.requires.rises c.leaf_remove.ensures.items c.leaf_remove.ensures.leaf c.leaf_remove.ensures.kept c.leaf_remove.ensures.others c.leaf_remove.ensures.spare c.leaf_remove.ensures.free

pub returns-clause-balance : goal.returns-clause-balance
returns-clause-balance c =
    let own = owned c.args.table.now c.own-copy.new.table c.args.at c.own-copy.result c.own-copy.ensures.same c.own-copy.ensures.table c.own-copy.ensures.copied in
    omega (arith, own.balance, c.leaf_remove.ensures.spare, c.leaf_remove.ensures.free)
