use Rattle.std.proofs.Common.{arith}
use Rattle.disk_model.specs.Disk.{known}
use Rattle.foreign_tree.specs.Tree.{disk_bytes, volume_value}
use Rattle.foreign_tree.proofs.Told.{told_always}
use Rattle.foreign_tree.proofs.Walking.{too_high, walk_answers}
use Rattle.foreign_tree.proofs.tree.walk.Goals as goal

pub returns-then-root-gt-MAX_LEVEL-clause-answer : goal.returns-then-root-gt-MAX_LEVEL-clause-answer
returns-then-root-gt-MAX_LEVEL-clause-answer g c =
    told_always (known (g.D.Disk.seen c.args.disk.now) (g.D.Disk.lost c.args.disk.now)) _ (λ image. too_high (volume_value c.args.volume.now) (disk_bytes image) c.args.root.now (omega arith))

pub returns-clause-answer : goal.returns-clause-answer
returns-clause-answer g c =
    walk_answers g.V.Visit.has_met (known (g.D.Disk.seen c.args.disk.now) (g.D.Disk.lost c.args.disk.now)) (volume_value c.args.volume.now) c.args.root.now c.new-reached.result c.walk_below.new.reached c.args.visitor.now c.walk_below.new.visitor c.walk_below.result
    (omega arith) c.new-reached.ensures c.walk_below.ensures.ok c.walk_below.ensures.fault
