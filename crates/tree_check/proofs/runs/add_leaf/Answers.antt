use Rattle.std.proofs.Common.{◌≤◌, length, arith}
use Rattle.volume_image.specs.Subvolume.{data_addresses}
use Rattle.tree_check.specs.Blocks.{runs_of}
use Rattle.tree_check.proofs.RunSteps.{all_added, item_added}
use Rattle.tree_check.proofs.runs.add_leaf.Goals as goal

pub loop-place-preserved : goal.loop-place-preserved
loop-place-preserved c =
    item_added (runs_of c.args.runs.now.items) (runs_of c.loop-place.runs.items) (runs_of c.add_run.new.runs.items) c.args.leaf.now c.loop-place.place (c.item_at.result.0, c.item_at.result.1.now) c.item_at.ensures c.loop-place.invariant c.in_ok-add_run.ensures

pub returns : goal.returns
returns c =
    let past : length c.args.leaf.now ≤ c.loop-place.place = let end = c.len-place-end.ensures.value in let test = c.loop-place-test.false in omega arith in
    all_added (runs_of c.args.runs.now.items) (runs_of c.loop-place.runs.items) c.args.leaf.now (data_addresses c.args.leaf.now) c.loop-place.place past c.loop-place.invariant
