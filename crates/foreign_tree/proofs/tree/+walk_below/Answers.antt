use Rattle.std.proofs.Common.{◌≡◌, ap, ◌∙◌, arith}
use Rattle.std.proofs.lemmas.Result.{err_from_is_err_and}
use Rattle.blk_base.specs.Leaf.{count_of}
use Rattle.disk_model.specs.Disk.{known}
use Rattle.disk_model.proofs.CrashLaws.{known_same}
use Rattle.foreign_tree.specs.Tree.{disk_bytes, volume_value}
use Rattle.foreign_tree.proofs.Told.{told_both, told_from, told_same}
use Rattle.foreign_tree.proofs.Walking.{leaf_walked, not_opened, walking_fails, walking_more, walking_none}
use Rattle.foreign_tree.proofs.tree.+walk_below.Goals as goal

pub returns-in_err-node-clause-fault : goal.returns-in_err-node-clause-fault
returns-in_err-node-clause-fault g t c =
    let p = err_from_is_err_and c.from_residual.result c.from_residual.ensures.1 in
    rw (p.1, p.2) (told_from (known (g.D.Disk.seen c.args.disk.now) (g.D.Disk.lost c.args.disk.now)) _ _ c.in_err-node.ensures.fault
    (λ image. not_opened (volume_value c.args.volume.now) (disk_bytes image) c.args.wanted.now c.args.reached.now c.in_err-node.field-0.0))

pub returns-then-wanted-eq0-clause-ok : goal.returns-then-wanted-eq0-clause-ok
returns-then-wanted-eq0-clause-ok g t c =
    let node = c.in_ok-node.node in
    told_both (known (g.D.Disk.seen c.args.disk.now) (g.D.Disk.lost c.args.disk.now)) _ _ _ c.in_ok-node.ensures.opened c.in_ok-node.ensures.bytes
    (λ image opens is. leaf_walked g.V.Visit.has_met (volume_value c.args.volume.now) (disk_bytes image) c.args.wanted.now c.args.reached.now c.read_node.new.reached c.args.visitor.now c.show.new.visitor node.place node.bytes.items
    (omega (arith, c.if-wanted-eq0.true)) opens is c.in_ok-node.ensures.reached c.in_ok-show.ensures)

pub loop-i-init : goal.loop-i-init
loop-i-init g t c =
    let node = c.in_ok-node.node in
    record {
      walking = told_both (known (g.D.Disk.seen c.args.disk.now) (g.D.Disk.lost c.args.disk.now)) _ _ _ c.in_ok-node.ensures.opened c.in_ok-node.ensures.bytes
          (λ image opens is. walking_none g.V.Visit.has_met (volume_value c.args.volume.now) (disk_bytes image) c.args.wanted.now c.args.reached.now c.read_node.new.reached c.args.visitor.now node.place node.bytes.items
          (omega (arith, c.if-wanted-eq0.false)) opens is c.in_ok-node.ensures.reached);
      size = c.read_node.ensures.size;
      seen = c.read_node.ensures.seen;
      lost = c.read_node.ensures.lost;
      told = c.read_node.ensures.told;
      counted = c.read_node.ensures.counted;
    }

pub returns-in_err-walk_below-clause-fault : goal.returns-in_err-walk_below-clause-fault
returns-in_err-walk_below-clause-fault g t c =
    let p = err_from_is_err_and c.from_residual-in_err-walk_below.result c.from_residual-in_err-walk_below.ensures.1 in
    let seen = known (g.D.Disk.seen c.args.disk.now) (g.D.Disk.lost c.args.disk.now) in
    let bytes = c.in_ok-node.node.bytes.items in
    let count : c.count_of-i-end.result ≡ count_of bytes = c.count_of-i-end.ensures.value ∙ ap count_of c.deref.ensures.value in
    let test = c.loop-i-test.true in
    rw (p.1, p.2) (told_both seen _ _ _ c.loop-i.invariant.walking (told_same seen _ _ (known_same _ _ _ _ c.loop-i.invariant.seen c.loop-i.invariant.lost) c.in_err-walk_below.ensures.fault)
    (λ image one. walking_fails g.V.Visit.has_met (volume_value c.args.volume.now) (disk_bytes image) c.args.wanted.now c.args.reached.now c.loop-i.reached c.args.visitor.now c.loop-i.visitor bytes c.loop-i.i c.child-child.result c.in_err-walk_below.field-0.0
    (omega arith) c.child-child.ensures one))

pub loop-i-preserved : goal.loop-i-preserved
loop-i-preserved g t c =
    let seen = known (g.D.Disk.seen c.args.disk.now) (g.D.Disk.lost c.args.disk.now) in
    let bytes = c.in_ok-node.node.bytes.items in
    let count : c.count_of-i-end.result ≡ count_of bytes = c.count_of-i-end.ensures.value ∙ ap count_of c.deref.ensures.value in
    let test = c.loop-i-test.true in
    let before = c.loop-i.invariant in
    record {
      walking = told_both seen _ _ _ before.walking (told_same seen _ _ (known_same _ _ _ _ before.seen before.lost) c.in_ok-walk_below.ensures.ok)
          (λ image one two. walking_more g.V.Visit.has_met (volume_value c.args.volume.now) (disk_bytes image) c.args.wanted.now c.args.reached.now c.loop-i.reached c.walk_below.new.reached c.args.visitor.now c.loop-i.visitor c.walk_below.new.visitor bytes c.loop-i.i c.child-child.result
          (omega arith) c.child-child.ensures one two);
      size = c.walk_below.ensures.size ∙ before.size;
      seen = c.walk_below.ensures.seen ∙ before.seen;
      lost = c.walk_below.ensures.lost ∙ before.lost;
      told = c.walk_below.ensures.told ∙ before.told;
      counted = let one = before.counted in let two = c.walk_below.ensures.counted in omega arith;
    }
