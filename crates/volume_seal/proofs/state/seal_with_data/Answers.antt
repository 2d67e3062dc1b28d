use Rattle.std.proofs.Common.{true}
use Rattle.volume_seal.proofs.WithData.{data_lent, data_room, data_taken, whole_now, with_data, written_now}
use Rattle.volume_seal.proofs.state.seal_with_data.Goals as goal

pub seal_data_below-requires-clause-shape : goal.seal_data_below-requires-clause-shape
seal_data_below-requires-clause-shape c = (true, c.seal_tree.ensures.tree.shape)

pub seal_data_below-requires-clause-taken : goal.seal_data_below-requires-clause-taken
seal_data_below-requires-clause-taken c =
    let e = c.seal_tree.ensures in
    data_taken c.args.table.now c.seal_tree.new.table c.args.tree.now c.args.fsid.now c.args.generation c.args.out.now c.seal_tree.new.out c.requires.taken c.requires.once e.tree e.items e.reach e.sealing e.clean e.handed e.room

pub seal_data_below-requires-clause-lent : goal.seal_data_below-requires-clause-lent
seal_data_below-requires-clause-lent c =
    let e = c.seal_tree.ensures in
    data_lent c.args.table.now c.seal_tree.new.table c.args.tree.now c.args.fsid.now c.args.generation c.args.out.now c.seal_tree.new.out c.requires.taken c.requires.once e.tree e.items e.reach e.sealing e.clean e.handed e.room c.requires.lent

pub seal_data_below-requires-clause-room : goal.seal_data_below-requires-clause-room
seal_data_below-requires-clause-room c =
    let e = c.seal_tree.ensures in
    data_room c.args.table.now c.seal_tree.new.table c.args.tree.now c.args.fsid.now c.args.generation c.args.out.now c.seal_tree.new.out c.requires.taken c.requires.once e.tree e.items e.reach e.sealing e.clean e.handed e.room c.requires.room

pub returns-clause-whole : goal.returns-clause-whole
returns-clause-whole c =
    let e = c.seal_tree.ensures in
    whole_now c.args.table.now c.seal_tree.new.table c.args.tree.now c.args.fsid.now c.args.generation c.args.out.now c.seal_tree.new.out c.requires.taken c.requires.once e.tree e.items e.reach e.sealing e.clean e.handed e.room c.seal_data_below.new.table c.seal_data_below.new.out c.seal_data_below.ensures
    (written_now c.args.table.now c.seal_tree.new.table c.args.tree.now c.args.fsid.now c.args.generation c.args.out.now c.seal_tree.new.out c.requires.taken c.requires.once e.tree e.items e.reach e.sealing e.clean e.handed e.room c.requires.ready e.sealed e.unchanged)

pub returns-clause-sealed : goal.returns-clause-sealed
returns-clause-sealed c =
    let e = c.seal_tree.ensures in
    with_data c.args.table.now c.seal_tree.new.table c.args.tree.now c.args.fsid.now c.args.generation c.args.out.now c.seal_tree.new.out c.requires.taken c.requires.once e.tree e.items e.reach e.sealing e.clean e.handed e.room c.seal_data_below.new.table c.seal_data_below.new.out c.seal_data_below.ensures
    (written_now c.args.table.now c.seal_tree.new.table c.args.tree.now c.args.fsid.now c.args.generation c.args.out.now c.seal_tree.new.out c.requires.taken c.requires.once e.tree e.items e.reach e.sealing e.clean e.handed e.room c.requires.ready e.sealed e.unchanged)
