use Rattle.std.proofs.Common.{◌<◌, length, arith}
use Rattle.coherent_limits.proofs.Blocks.{run_all, run_broken, run_far, run_more}
use Rattle.coherent_limits.proofs.runs.run_keeps_limits.Goals as goal

pub loop-place-preserved : goal.loop-place-preserved
loop-place-preserved c = record {
  place_is = let is = c.loop-place.invariant.place_is in omega arith;
  kept = run_more c.args.table.now c.args.at.0 c.args.number c.args.size c.loop-place.place c.loop-place.block c.loop-place.invariant.place_is c.loop-place.invariant.kept (c.keeps_limits.ensures.0 c.if-not-keeps_limits.false);
}

pub returns-then-not-keeps_limits : goal.returns-then-not-keeps_limits
returns-then-not-keeps_limits c =
    run_broken c.args.table.now c.args.at.0 c.args.number c.args.count c.args.size c.loop-place.place c.loop-place.block c.keeps_limits.result c.loop-place.invariant.place_is c.loop-place-test.true c.if-not-keeps_limits.true c.keeps_limits.ensures

pub returns-then-block-ge281474976710656 : goal.returns-then-block-ge281474976710656
returns-then-block-ge281474976710656 c =
    let few : length c.args.table.now.slots < 4294967296 = let is = c.blocks-blocks.ensures in let fits = c.blocks-blocks.type_inv in omega arith in
    run_far c.args.table.now c.args.at.0 c.args.number c.args.count c.args.size c.loop-place.place c.loop-place.block few c.loop-place.invariant.place_is c.if-block-ge281474976710656.true c.loop-place.invariant.kept

pub returns : goal.returns
returns c =
    run_all c.args.table.now c.args.at.0 c.args.number c.args.count c.args.size c.loop-place.place (let past = c.loop-place-test.false in omega arith) c.loop-place.invariant.kept
