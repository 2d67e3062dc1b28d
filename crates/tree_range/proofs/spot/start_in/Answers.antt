use Rattle.tree_range.proofs.Found.{start_found, start_absent}
use Rattle.tree_range.proofs.spot.start_in.Goals as goal

pub returns-in-Ok : goal.returns-in-Ok
returns-in-Ok c = start_found c.args.leaf.now c.args.key.now c.in-Ok.place c.requires c.in-Ok.ensures.found

pub returns-in-Err : goal.returns-in-Err
returns-in-Err c = start_absent c.args.leaf.now c.args.key.now c.in-Err.place c.in-Err.ensures.absent
