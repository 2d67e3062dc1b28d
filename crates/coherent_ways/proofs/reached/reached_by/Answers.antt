use Rattle.std.proofs.Common.{◌<◌, ◌≤◌, length, arith}
use Rattle.std.specs.BTreeSet.{contains}
use Rattle.std.specs.Ordering.{nat_cmp}
use Rattle.coherent_names.specs.Names.{flat_names}
use Rattle.coherent_ways.proofs.Walks.{all_closed, more_closed, walk_ends, walk_fits}
use Rattle.coherent_ways.proofs.reached.reached_by.Goals as goal

pub loop-at-smaller : goal.loop-at-smaller
loop-at-smaller c =
    let short = walk_fits c.args.names.now (contains nat_cmp c.loop-at.walk.reached) c.loop-at.walk.queue.items c.loop-at.invariant.walk in
    let below : c.loop-at.at < length c.loop-at.walk.queue.items = omega arith in
    omega arith

pub loop-at-preserved : goal.loop-at-preserved
loop-at-preserved c = record {
  walk = c.in_ok-reach_below.ensures.walk;
  closed = more_closed (flat_names c.args.names.now) c.loop-at.walk.queue.items c.reach_below.new.self.queue.items c.loop-at.at c.index-dir.result.now (omega arith) c.index-dir.ensures c.in_ok-reach_below.ensures.extends
      c.loop-at.invariant.closed c.in_ok-reach_below.ensures.below;
}

pub returns : goal.returns
returns c =
    let past : length c.loop-at.walk.queue.items ≤ c.loop-at.at = omega arith in
    walk_ends (flat_names c.args.names.now) (contains nat_cmp c.loop-at.walk.reached) c.loop-at.walk.queue.items c.loop-at.invariant.walk
    (all_closed (flat_names c.args.names.now) c.loop-at.walk.queue.items c.loop-at.at past c.loop-at.invariant.closed)
