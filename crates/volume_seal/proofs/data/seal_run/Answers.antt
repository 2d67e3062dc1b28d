use Rattle.std.proofs.Common.{◌+◌, ◌-◌, [], ◌∷◌, arith}
use Rattle.std.specs.Prelude.{All}
use Rattle.std.proofs.lemmas.List.Elements.{All-head}
use Rattle.block_table.specs.TreeIn.{IsTaken}
use Rattle.volume_image.specs.Subvolume.{run_addresses}
use Rattle.volume_seal.proofs.DataParts.{length_run, run_empty, run_first, run_none, up_to_all, up_to_lent, up_to_more, up_to_none, up_to_room, up_to_same, up_to_taken}
use Rattle.volume_seal.proofs.data.seal_run.Goals as goal

pub loop-left-init : goal.loop-left-init
loop-left-init c = up_to_none c.args.table.now (run_addresses c.args.run.at.0 c.args.run.blocks) c.args.out.now

pub seal_data_block-requires-clause-lent : goal.seal_data_block-requires-clause-lent
seal_data_block-requires-clause-lent c =
    up_to_lent c.args.table.now c.loop-left.table (run_addresses c.args.run.at.0 c.args.run.blocks) (c.loop-left.next ∷ []) (run_addresses (c.loop-left.next + 4096) (c.loop-left.left - 1)) (run_addresses c.loop-left.next c.loop-left.left) c.args.out.now c.loop-left.out c.loop-left.invariant (run_first c.loop-left.next c.loop-left.left c.loop-left-test.true) c.requires.lent

pub seal_data_block-requires-clause-room : goal.seal_data_block-requires-clause-room
seal_data_block-requires-clause-room c =
    let long = length_run c.args.run.at.0 c.args.run.blocks in
    let room = c.requires.room in
    let left = up_to_room c.args.table.now c.loop-left.table (run_addresses c.args.run.at.0 c.args.run.blocks) (c.loop-left.next ∷ []) (run_addresses (c.loop-left.next + 4096) (c.loop-left.left - 1)) (run_addresses c.loop-left.next c.loop-left.left) c.args.out.now c.loop-left.out c.loop-left.invariant (run_first c.loop-left.next c.loop-left.left c.loop-left-test.true) (omega (arith, long, room)) in
    omega (arith, left)

pub overflow_add-next : goal.overflow_add-next
overflow_add-next c =
    let taken : All (IsTaken c.loop-left.table) (c.loop-left.next ∷ []) = up_to_taken c.args.table.now c.loop-left.table (run_addresses c.args.run.at.0 c.args.run.blocks) (c.loop-left.next ∷ []) (run_addresses (c.loop-left.next + 4096) (c.loop-left.left - 1)) (run_addresses c.loop-left.next c.loop-left.left) c.args.out.now c.loop-left.out c.loop-left.invariant (run_first c.loop-left.next c.loop-left.left c.loop-left-test.true) c.requires.taken in
    let allowed = (All-head (IsTaken c.loop-left.table) c.loop-left.next [] taken).allowed in
    let size = c.loop-left.invariant.done.part.sealing.size in
    let few = c.blocks-blocks.type_inv in
    let many = c.blocks-blocks.ensures in
    omega (arith, allowed.inside, size, few, many)

pub loop-left-preserved-then-left-gt0 : goal.loop-left-preserved-then-left-gt0
loop-left-preserved-then-left-gt0 c =
    up_to_more c.args.table.now c.loop-left.table (run_addresses c.args.run.at.0 c.args.run.blocks) (c.loop-left.next ∷ []) (run_addresses (c.loop-left.next + 4096) (c.loop-left.left - 1)) (run_addresses c.loop-left.next c.loop-left.left) c.args.out.now c.loop-left.out c.loop-left.invariant (run_first c.loop-left.next c.loop-left.left c.loop-left-test.true) c.seal_data_block.new.table c.seal_data_block.new.out c.seal_data_block.ensures

pub loop-left-preserved : goal.loop-left-preserved
loop-left-preserved c =
    up_to_same c.args.table.now c.seal_data_block.new.table (run_addresses c.args.run.at.0 c.args.run.blocks) (run_addresses c.loop-left.next (c.loop-left.left - 1)) (run_addresses (c.loop-left.next + 4096) (c.loop-left.left - 1)) c.args.out.now c.seal_data_block.new.out (run_none (c.loop-left.next + 4096) c.loop-left.next (c.loop-left.left - 1) c.if-left-gt0.false)
    (up_to_more c.args.table.now c.loop-left.table (run_addresses c.args.run.at.0 c.args.run.blocks) (c.loop-left.next ∷ []) (run_addresses (c.loop-left.next + 4096) (c.loop-left.left - 1)) (run_addresses c.loop-left.next c.loop-left.left) c.args.out.now c.loop-left.out c.loop-left.invariant (run_first c.loop-left.next c.loop-left.left c.loop-left-test.true) c.seal_data_block.new.table c.seal_data_block.new.out c.seal_data_block.ensures)

pub returns : goal.returns
returns c =
    up_to_all c.args.table.now c.loop-left.table (run_addresses c.args.run.at.0 c.args.run.blocks) (run_addresses c.loop-left.next c.loop-left.left) c.args.out.now c.loop-left.out (run_empty c.loop-left.next c.loop-left.left c.loop-left-test.false) c.loop-left.invariant
