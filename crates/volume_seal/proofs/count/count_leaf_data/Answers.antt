use Rattle.std.proofs.Common.{arith}
use Rattle.volume_seal.proofs.Counted.{leaf_end_count, run_count}
use Rattle.volume_seal.proofs.count.count_leaf_data.Goals as goal

pub overflow_cast-count : goal.overflow_cast-count
overflow_cast-count c =
    let next = run_count c.args.table.now c.args.at.0 c.loop-place.place c.requires.leaf _ _ _ _ c.leaf_key.ensures c.leaf_data.ensures.listed c.run_of-run.ensures in
    let before = c.loop-place.invariant in
    let few = c.requires.few in
    omega (arith, next, before, few)

pub overflow_add-count : goal.overflow_add-count
overflow_add-count c =
    let next = run_count c.args.table.now c.args.at.0 c.loop-place.place c.requires.leaf _ _ _ _ c.leaf_key.ensures c.leaf_data.ensures.listed c.run_of-run.ensures in
    let before = c.loop-place.invariant in
    let few = c.requires.few in
    omega (arith, next, before, few)

pub loop-place-preserved : goal.loop-place-preserved
loop-place-preserved c =
    let next = run_count c.args.table.now c.args.at.0 c.loop-place.place c.requires.leaf _ _ _ _ c.leaf_key.ensures c.leaf_data.ensures.listed c.run_of-run.ensures in
    let before = c.loop-place.invariant in
    omega (arith, next, before)

pub returns : goal.returns
returns c =
    let end = leaf_end_count c.args.table.now c.args.at.0 c.loop-place.place c.leaf_len-place-end.result c.requires.leaf c.leaf_len-place-end.ensures.value c.loop-place-test.false in
    let before = c.loop-place.invariant in
    omega (arith, end, before)
