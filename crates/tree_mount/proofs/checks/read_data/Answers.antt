use Rattle.std.proofs.Common.{◌+◌, take, ◌∙◌, arith}
use Rattle.disk_model.specs.Disk.{known}
use Rattle.disk_model.proofs.CrashLaws.{known_same}
use Rattle.tree_mount.specs.Trees.{wants_data}
use Rattle.tree_mount.proofs.Checking.{MoreRead, kept_tree_by, read_fails_by, read_more_by}
use Rattle.tree_mount.proofs.checks.read_data.Goals as goal

pub data-requires-clause-tree : goal.data-requires-clause-tree
data-requires-clause-tree g c =
    kept_tree_by c.args.table.now c.loop-want.table c.args.wants.now c.loop-want.want-index _ c.tree_wanted.result (wants_data c.args.table.now (take c.loop-want.want-index c.args.wants.now)) c.tree_wanted.ensures c.loop-want-test.true c.requires.trees c.loop-want.invariant.load

pub returns-in-Err-clause-fault : goal.returns-in-Err-clause-fault
returns-in-Err-clause-fault g c =
    read_fails_by c.args.table.now c.loop-want.table c.args.wants.now c.loop-want.want-index _ c.tree_wanted.result c.in-Err.fault c.of_tree.result c.tree_wanted.ensures c.loop-want-test.true c.requires.trees c.loop-want.invariant.load c.loop-want.invariant.reachable c.in-Err.ensures.answer c.of_tree.ensures

pub loop-want-preserved : goal.loop-want-preserved
loop-want-preserved g c =
    let more : MoreRead (known (g.D.Disk.seen c.args.disk.now) (g.D.Disk.lost c.args.disk.now)) c.args.table.now c.«data».new.table (take (c.loop-want.want-index + 1) c.args.wants.now) =
    read_more_by (known (g.D.Disk.seen c.args.disk.now) (g.D.Disk.lost c.args.disk.now)) (known (g.D.Disk.seen c.loop-want.disk) (g.D.Disk.lost c.loop-want.disk)) c.args.table.now c.loop-want.table c.«data».new.table c.args.wants.now c.loop-want.want-index _ c.tree_wanted.result c.tree_wanted.ensures c.loop-want-test.true
    (known_same _ _ _ _ c.loop-want.invariant.seen c.loop-want.invariant.lost) c.requires.trees c.loop-want.invariant.load c.loop-want.invariant.reachable c.loop-want.invariant.bytes c.in_default.ensures.answer c.in_default.ensures.loaded c.in_default.ensures.bytes in
    record {
      load = more.load;
      reachable = more.reachable;
      bytes = more.bytes;
      size = c.«data».ensures.size ∙ c.loop-want.invariant.size;
      seen = c.«data».ensures.seen ∙ c.loop-want.invariant.seen;
      lost = c.«data».ensures.lost ∙ c.loop-want.invariant.lost;
      told = c.«data».ensures.told ∙ c.loop-want.invariant.told;
      counted = let one = c.loop-want.invariant.counted in let two = c.«data».ensures.counted in omega arith;
    }
