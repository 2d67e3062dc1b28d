use Rattle.tree_range.specs.Shape.{leaf_items}
use Rattle.volume_image.specs.Subvolume.{data_addresses}
use Rattle.volume_seal.proofs.DataParts.{leaf_done, leaf_still, leaf_taken, leaf_within, run_lent, run_more, run_room, run_taken, up_to_none}
use Rattle.volume_seal.proofs.data.seal_leaf_data.Goals as goal

pub loop-place-init : goal.loop-place-init
loop-place-init c = up_to_none c.args.table.now (data_addresses (leaf_items c.args.table.now c.args.at.0)) c.args.out.now

pub leaf_key-requires-clause-taken : goal.leaf_key-requires-clause-taken
leaf_key-requires-clause-taken c =
    leaf_taken c.args.table.now c.loop-place.table c.args.at.0 c.loop-place.place c.args.out.now c.loop-place.out c.loop-place.invariant c.requires.leaf c.requires.here c.requires.clean

pub leaf_key-requires-clause-leaf : goal.leaf_key-requires-clause-leaf
leaf_key-requires-clause-leaf c =
    leaf_still c.args.table.now c.loop-place.table c.args.at.0 c.loop-place.place c.args.out.now c.loop-place.out c.loop-place.invariant c.requires.leaf c.requires.here c.requires.clean

pub leaf_key-requires-clause-within : goal.leaf_key-requires-clause-within
leaf_key-requires-clause-within c =
    leaf_within c.args.table.now c.loop-place.table c.args.at.0 c.loop-place.place c.args.out.now c.loop-place.out c.loop-place.invariant c.requires.leaf c.requires.here c.requires.clean c.leaf_len-place-end.result c.leaf_len-place-end.ensures.value c.loop-place-test.true

pub leaf_data-requires-clause-taken : goal.leaf_data-requires-clause-taken
leaf_data-requires-clause-taken c =
    leaf_taken c.args.table.now c.loop-place.table c.args.at.0 c.loop-place.place c.args.out.now c.loop-place.out c.loop-place.invariant c.requires.leaf c.requires.here c.requires.clean

pub leaf_data-requires-clause-leaf : goal.leaf_data-requires-clause-leaf
leaf_data-requires-clause-leaf c =
    leaf_still c.args.table.now c.loop-place.table c.args.at.0 c.loop-place.place c.args.out.now c.loop-place.out c.loop-place.invariant c.requires.leaf c.requires.here c.requires.clean

pub leaf_data-requires-clause-within : goal.leaf_data-requires-clause-within
leaf_data-requires-clause-within c =
    leaf_within c.args.table.now c.loop-place.table c.args.at.0 c.loop-place.place c.args.out.now c.loop-place.out c.loop-place.invariant c.requires.leaf c.requires.here c.requires.clean c.leaf_len-place-end.result c.leaf_len-place-end.ensures.value c.loop-place-test.true

pub seal_run-requires-clause-taken : goal.seal_run-requires-clause-taken
seal_run-requires-clause-taken c =
    run_taken c.args.table.now c.loop-place.table c.args.at.0 c.loop-place.place c.args.out.now c.loop-place.out c.loop-place.invariant c.requires.leaf c.requires.here c.requires.clean _ _ _ _ c.leaf_key.ensures c.leaf_data.ensures.listed c.run_of-run.ensures c.requires.taken

pub seal_run-requires-clause-lent : goal.seal_run-requires-clause-lent
seal_run-requires-clause-lent c =
    run_lent c.args.table.now c.loop-place.table c.args.at.0 c.loop-place.place c.args.out.now c.loop-place.out c.loop-place.invariant c.requires.leaf c.requires.here c.requires.clean _ _ _ _ c.leaf_key.ensures c.leaf_data.ensures.listed c.run_of-run.ensures c.requires.lent

pub seal_run-requires-clause-room : goal.seal_run-requires-clause-room
seal_run-requires-clause-room c =
    run_room c.args.table.now c.loop-place.table c.args.at.0 c.loop-place.place c.args.out.now c.loop-place.out c.loop-place.invariant c.requires.leaf c.requires.here c.requires.clean _ _ _ _ c.leaf_key.ensures c.leaf_data.ensures.listed c.run_of-run.ensures c.requires.room

pub loop-place-preserved : goal.loop-place-preserved
loop-place-preserved c =
    run_more c.args.table.now c.loop-place.table c.args.at.0 c.loop-place.place c.args.out.now c.loop-place.out c.loop-place.invariant c.requires.leaf c.requires.here c.requires.clean _ _ _ _ c.leaf_key.ensures c.leaf_data.ensures.listed c.run_of-run.ensures c.seal_run.new.table c.seal_run.new.out c.seal_run.ensures

pub returns : goal.returns
returns c =
    leaf_done c.args.table.now c.loop-place.table c.args.at.0 c.loop-place.place c.args.out.now c.loop-place.out c.loop-place.invariant c.requires.leaf c.requires.here c.requires.clean c.leaf_len-place-end.result c.leaf_len-place-end.ensures.value c.loop-place-test.false
