use Rattle.std.proofs.Common.{◌∙◌, arith}
use Rattle.table_commit.specs.Commit.{settled}
use Rattle.table_commit.proofs.Settled.{so_far_all, step, step_out}
use Rattle.table_commit.proofs.settle.settle_sealed.Goals as goal

pub settle_block-requires-clause-back : goal.settle_block-requires-clause-back
settle_block-requires-clause-back c =
    let inside = c.loop-number-test.true in
    let blocks = c.blocks-number-end.ensures in
    step_out settled c.args.table.now c.loop-number.number (omega (arith, inside, blocks)) c.loop-number.table c.address_of.result c.loop-number.invariant c.address_of.ensures c.requires

pub loop-number-preserved : goal.loop-number-preserved
loop-number-preserved c =
    let inside = c.loop-number-test.true in
    let blocks = c.blocks-number-end.ensures in
    step settled c.args.table.now c.loop-number.number (omega (arith, inside, blocks)) c.loop-number.table c.address_of.result c.loop-number.invariant c.address_of.ensures c.settle_block.new.table c.settle_block.ensures

pub returns : goal.returns
returns c =
    let past = c.loop-number-test.false in
    let blocks = c.blocks-number-end.ensures in
    c.loop-number.invariant ∙ so_far_all settled c.args.table.now c.loop-number.number (omega (arith, past, blocks))
