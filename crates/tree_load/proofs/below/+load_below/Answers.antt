use Rattle.std.proofs.Common.{◌-◌, drop, length, sym, ◌∙◌, arith}
use Rattle.std.proofs.lemmas.Result.{err_from_is_err_and}
use Rattle.disk_model.specs.Disk.{known}
use Rattle.disk_model.proofs.CrashLaws.{known_same}
use Rattle.tree_load.proofs.Loading.{at_ok, fails_at, fault_below, leaf_loaded, leaf_refused, loading_all, loading_none, more_at, node_broken, node_refused, none_left, not_entered, told_always, told_from}
use Rattle.tree_load.proofs.below.+load_below.Goals as goal

pub returns-in_err-enter-clause-fault : goal.returns-in_err-enter-clause-fault
returns-in_err-enter-clause-fault g t c =
    let p = err_from_is_err_and c.from_residual.result c.from_residual.ensures.1 in
    let want = c.args.want.now in
    rw (p.1, p.2) (told_always (known (g.D.Disk.seen c.args.disk.now) (g.D.Disk.lost c.args.disk.now)) _ (λ image. fault_below image c.args.table.now want c.args.under c.args.last c.in_err-enter.field-0.0
    (λ before taken ends. not_entered want.level image (length c.args.table.now.slots) c.args.under want before c.in_err-enter.field-0.0 (c.in_err-enter.ensures.checks before taken))))

pub read_block-requires : goal.read_block-requires
read_block-requires g t c = let inside = c.in_ok-enter.ensures.allowed.inside in let size = c.requires in omega arith

pub returns-in_err-after-clause-fault : goal.returns-in_err-after-clause-fault
returns-in_err-after-clause-fault g t c =
    let p = err_from_is_err_and c.from_residual-in_err-after.result c.from_residual-in_err-after.ensures.1 in
    rw (p.1, p.2) (told_from (known (g.D.Disk.seen c.args.disk.now) (g.D.Disk.lost c.args.disk.now)) _ _ (at_ok c.read_block.result (sym c.is_err.ensures.value ∙ c.if-is_err.false) c.read_block.ensures.bytes)
    (λ image is. leaf_refused image c.args.table.now c.args.want.now c.args.under c.args.last c.read_block.new.into (omega (arith, c.if-want-eq0.true)) c.in_ok-enter.ensures.checks is c.in_err-after.field-0.0 c.in_err-after.ensures.err))

pub stand-requires-clause-allowed : goal.stand-requires-clause-allowed
stand-requires-clause-allowed g t c = c.in_ok-enter.ensures.allowed

pub stand-requires-clause-free : goal.stand-requires-clause-free
stand-requires-clause-free g t c = c.in_ok-enter.ensures.free

pub returns-in-Ok-clause-ok : goal.returns-in-Ok-clause-ok
returns-in-Ok-clause-ok g t c =
    leaf_loaded (known (g.D.Disk.seen c.args.disk.now) (g.D.Disk.lost c.args.disk.now)) c.args.table.now c.stand.new.table c.args.want.now c.args.under c.args.last c.in_ok-after.after c.read_block.new.into (omega (arith, c.if-want-eq0.true)) c.in_ok-enter.ensures.checks
    (at_ok c.read_block.result (sym c.is_err.ensures.value ∙ c.if-is_err.false) c.read_block.ensures.bytes) c.in_ok-after.ensures.ok c.in-Ok.ensures.load c.in-Ok.ensures.bytes

pub returns-in-Err-open-clause-fault : goal.returns-in-Err-open-clause-fault
returns-in-Err-open-clause-fault g t c =
    told_from (known (g.D.Disk.seen c.args.disk.now) (g.D.Disk.lost c.args.disk.now)) _ _ (at_ok c.read_block.result (sym c.is_err.ensures.value ∙ c.if-is_err.false) c.read_block.ensures.bytes)
    (λ image is. node_broken (c.args.want.now.level - 1) image c.args.table.now c.args.want.now c.args.under c.args.last c.read_block.new.into (omega (arith, c.if-want-eq0.false)) c.in_ok-enter.ensures.checks is c.in-Err-open.fault (sym c.open.ensures ∙ c.in-Err-open.is))

pub returns-in_err-check_node-clause-fault : goal.returns-in_err-check_node-clause-fault
returns-in_err-check_node-clause-fault g t c =
    let p = err_from_is_err_and c.from_residual-in_err-check_node.result c.from_residual-in_err-check_node.ensures.1 in
    rw (p.1, p.2) (told_from (known (g.D.Disk.seen c.args.disk.now) (g.D.Disk.lost c.args.disk.now)) _ _ (at_ok c.read_block.result (sym c.is_err.ensures.value ∙ c.if-is_err.false) c.read_block.ensures.bytes)
    (λ image is. node_refused (c.args.want.now.level - 1) image c.args.table.now c.args.want.now c.args.under c.args.last c.read_block.new.into (omega (arith, c.if-want-eq0.false)) c.in_ok-enter.ensures.checks is c.in-Ok-open.node c.in_err-check_node.field-0.0 (sym c.open.ensures ∙ c.in-Ok-open.is) c.in_err-check_node.ensures.checks))

pub stand-requires-2-clause-allowed : goal.stand-requires-2-clause-allowed
stand-requires-2-clause-allowed g t c = c.in_ok-enter.ensures.allowed

pub stand-requires-2-clause-free : goal.stand-requires-2-clause-free
stand-requires-2-clause-free g t c = c.in_ok-enter.ensures.free

pub loop-place-init : goal.loop-place-init
loop-place-init g t c = record {
  loading = loading_none (c.args.want.now.level - 1) (known (g.D.Disk.seen c.args.disk.now) (g.D.Disk.lost c.args.disk.now)) c.args.table.now c.stand-2.new.table c.args.want.now c.args.under c.args.last c.read_block.new.into c.in-Ok-open.node (omega (arith, c.if-want-eq0.false)) c.in_ok-enter.ensures.checks
      (at_ok c.read_block.result (sym c.is_err.ensures.value ∙ c.if-is_err.false) c.read_block.ensures.bytes) (sym c.open.ensures ∙ c.in-Ok-open.is) c.in_ok-check_node.ensures.checks
      (at_ok c.stand-2.result (sym c.is_err-2.ensures.value ∙ c.if-is_err-2.false) c.stand-2.ensures.load) (at_ok c.stand-2.result (sym c.is_err-2.ensures.value ∙ c.if-is_err-2.false) c.stand-2.ensures.bytes);
  size = c.read_block.ensures.size;
  seen = c.read_block.ensures.seen;
  lost = c.read_block.ensures.lost;
  told = c.read_block.ensures.told;
  counted = c.read_block.ensures.cause.0;
}

pub load_below-requires : goal.load_below-requires
load_below-requires g t c κs within =
    (let falls = c.child_want-child.ensures.level in omega arith, (within, (let size = c.loop-place.invariant.size in let slots = c.loop-place.invariant.loading.load.size in let before = c.requires in omega arith)))

pub returns-in_err-met-clause-fault : goal.returns-in_err-met-clause-fault
returns-in_err-met-clause-fault g t c =
    let p = err_from_is_err_and c.from_residual-in_err-met.result c.from_residual-in_err-met.ensures.1 in
    rw (p.1, p.2) (fails_at (c.args.want.now.level - 1) (known (g.D.Disk.seen c.args.disk.now) (g.D.Disk.lost c.args.disk.now)) c.args.table.now c.loop-place.table c.args.want.now c.args.under c.args.last c.loop-place.met c.in-Ok-open.node c.loop-place.place c.loop-place.invariant.loading
    (let test = c.loop-place-test.true in let count = c.len-place-end.ensures.value in omega arith) c.child_want-child.result c.key.result c.child_want-child.ensures.value c.key.ensures (known (g.D.Disk.seen c.loop-place.disk) (g.D.Disk.lost c.loop-place.disk)) c.in_err-met.field-0.0 (known_same _ _ _ _ c.loop-place.invariant.seen c.loop-place.invariant.lost) c.in_err-met.ensures.fault)

pub loop-place-preserved : goal.loop-place-preserved
loop-place-preserved g t c = record {
  loading = more_at (c.args.want.now.level - 1) (known (g.D.Disk.seen c.args.disk.now) (g.D.Disk.lost c.args.disk.now)) c.args.table.now c.loop-place.table c.args.want.now c.args.under c.args.last c.loop-place.met c.in-Ok-open.node c.loop-place.place c.loop-place.invariant.loading
      (let test = c.loop-place-test.true in let count = c.len-place-end.ensures.value in omega arith) c.child_want-child.result c.key.result c.child_want-child.ensures.value c.key.ensures (known (g.D.Disk.seen c.loop-place.disk) (g.D.Disk.lost c.loop-place.disk)) c.load_below.new.table c.in_ok-met.met (known_same _ _ _ _ c.loop-place.invariant.seen c.loop-place.invariant.lost) c.in_ok-met.ensures.ok;
  size = c.load_below.ensures.size ∙ c.loop-place.invariant.size;
  seen = c.load_below.ensures.seen ∙ c.loop-place.invariant.seen;
  lost = c.load_below.ensures.lost ∙ c.loop-place.invariant.lost;
  told = c.load_below.ensures.told ∙ c.loop-place.invariant.told;
  counted = let one = c.loop-place.invariant.counted in let two = c.load_below.ensures.counted in omega arith;
}

pub returns-clause-ok : goal.returns-clause-ok
returns-clause-ok g t c = loading_all (c.args.want.now.level - 1) (known (g.D.Disk.seen c.args.disk.now) (g.D.Disk.lost c.args.disk.now)) c.args.table.now c.loop-place.table c.args.want.now c.args.under c.args.last c.loop-place.met (drop c.loop-place.place c.in-Ok-open.node) c.loop-place.invariant.loading
    (let test = c.loop-place-test.false in let count = c.len-place-end.ensures.value in none_left c.in-Ok-open.node c.loop-place.place (omega arith))
