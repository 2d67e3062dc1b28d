use Rattle.std.proofs.Common.{◌≤◌, ◌<◌, ◌/◌, List, ℕ, length, true, false, is_ok, arith, refl, sym, subst, ◌∙◌}
use Rattle.disk_model.specs.Disk.{Call, Changes, Continues, written}
use Rattle.batch_write.specs.Batch.{AtBlock, IsPlace, blocks_of, numbers_of, write_call}
use Rattle.std.proofs.lemmas.List.{take_all}
use Rattle.batch_write.proofs.CallLemmas.{calls_all, calls_begin, calls_go_on, regained_all, regained_begins, regained_goes_on, to_on_err, write_failed}
use Rattle.batch_write.proofs.ImageLemmas.{IsNext, length-blocks_of, next_block, of_next, same_begins, same_goes_on, written_begins, written_goes_on, written_all}
use Rattle.batch_write.proofs.MomentLemmas.{IsRead, so_far_begins, so_far_writes}
use Rattle.batch_write.proofs.batch.write_blocks.Goals as goal

pub loop-at-init : goal.loop-at-init
loop-at-init g c =
    let disk = c.args.disk.now in
    let batch : List AtBlock = blocks_of c.args.batch.now in
    let read : IsRead (g.D.Disk.told disk) (g.D.Disk.seen disk) (g.D.Disk.count disk) = record { as_told = g.met.D.Disk.reads_as_told disk; blocks = g.met.D.Disk.reads_blocks disk; all = g.met.D.Disk.reads_all disk } in record {
      size = refl;
      same = same_begins (numbers_of batch) (g.D.Disk.seen disk);
      written = written_begins batch (g.D.Disk.seen disk);
      lost = regained_begins batch (g.D.Disk.lost disk);
      calls = calls_begin batch (g.D.Disk.told disk);
      crash = so_far_begins (numbers_of batch) (g.D.Disk.told disk) (g.D.Disk.seen disk) (g.D.Disk.count disk) read;
      counted = omega arith;
    }

pub write_at-requires : goal.write_at-requires
write_at-requires g c =
    let item = c.loop-at-item.result in
    let within : c.loop-at.at-index < length c.args.batch.now = omega arith in
    let next : IsNext (blocks_of c.args.batch.now) c.loop-at.at-index (item.0, item.1.value) = next_block c.args.batch.now c.loop-at.at-index item within c.loop-at-item.is in
    let place : IsPlace (g.D.Disk.count c.args.disk.now) item.0 = of_next (λ one. IsPlace (g.D.Disk.count c.args.disk.now) one.0) (blocks_of c.args.batch.now) c.loop-at.at-index (item.0, item.1.value) next c.requires.places in
    subst (λ (count : ℕ). IsPlace count item.0) (sym c.loop-at.invariant.size) place

pub returns-in_err-write_at-clause-same : goal.returns-in_err-write_at-clause-same
returns-in_err-write_at-clause-same g c =
    let item = c.loop-at-item.result in
    let within : c.loop-at.at-index < length c.args.batch.now = omega arith in
    let next : IsNext (blocks_of c.args.batch.now) c.loop-at.at-index (item.0, item.1.value) = next_block c.args.batch.now c.loop-at.at-index item within c.loop-at-item.is in
    same_goes_on (blocks_of c.args.batch.now) c.loop-at.at-index (item.0, item.1.value) (g.D.Disk.seen c.args.disk.now) (g.D.Disk.seen c.loop-at.disk) (g.D.Disk.seen c.write_at.new.disk) c.deref.result.now (is_ok c.write_at.result) next
    c.loop-at.invariant.same c.write_at.ensures.seen

pub returns-in_err-write_at-clause-crash : goal.returns-in_err-write_at-clause-crash
returns-in_err-write_at-clause-crash g c =
    let item = c.loop-at-item.result in
    let disk = c.loop-at.disk in
    let within : c.loop-at.at-index < length c.args.batch.now = omega arith in
    let next : IsNext (blocks_of c.args.batch.now) c.loop-at.at-index (item.0, item.1.value) = next_block c.args.batch.now c.loop-at.at-index item within c.loop-at-item.is in
    let place : IsPlace (g.D.Disk.count c.args.disk.now) item.0 = of_next (λ one. IsPlace (g.D.Disk.count c.args.disk.now) one.0) (blocks_of c.args.batch.now) c.loop-at.at-index (item.0, item.1.value) next c.requires.places in
    let read : IsRead (g.D.Disk.told disk) (g.D.Disk.seen disk) (g.D.Disk.count disk) = record { as_told = g.met.D.Disk.reads_as_told disk; blocks = g.met.D.Disk.reads_blocks disk; all = g.met.D.Disk.reads_all disk } in
    so_far_writes (blocks_of c.args.batch.now) c.loop-at.at-index (item.0, item.1.value) (g.D.Disk.told c.args.disk.now) (g.D.Disk.told disk) (g.D.Disk.told c.write_at.new.disk) (g.D.Disk.seen disk) (g.D.Disk.seen c.write_at.new.disk)
    (g.D.Disk.count disk) c.deref.result.now (is_ok c.write_at.result) read next (subst (λ (count : ℕ). item.0.0 / 4096 < count) (sym c.loop-at.invariant.size) place.inside) place.not_super c.loop-at.invariant.crash c.write_at.ensures.told

pub loop-at-preserved : goal.loop-at-preserved
loop-at-preserved g c =
    let item = c.loop-at-item.result in
    let disk = c.loop-at.disk in
    let batch : List AtBlock = blocks_of c.args.batch.now in
    let within : c.loop-at.at-index < length c.args.batch.now = omega arith in
    let next : IsNext batch c.loop-at.at-index (item.0, item.1.value) = next_block c.args.batch.now c.loop-at.at-index item within c.loop-at-item.is in
    let place : IsPlace (g.D.Disk.count c.args.disk.now) item.0 = of_next (λ one. IsPlace (g.D.Disk.count c.args.disk.now) one.0) batch c.loop-at.at-index (item.0, item.1.value) next c.requires.places in
    let inside : item.0.0 / 4096 < g.D.Disk.count disk = subst (λ (count : ℕ). item.0.0 / 4096 < count) (sym c.loop-at.invariant.size) place.inside in
    let read : IsRead (g.D.Disk.told disk) (g.D.Disk.seen disk) (g.D.Disk.count disk) = record { as_told = g.met.D.Disk.reads_as_told disk; blocks = g.met.D.Disk.reads_blocks disk; all = g.met.D.Disk.reads_all disk } in
    let written : Continues (g.D.Disk.told disk) (g.D.Disk.told c.write_at.new.disk) true (write_call (item.0, item.1.value)) =
    subst (λ (bytes : List ℕ). Continues (g.D.Disk.told disk) (g.D.Disk.told c.write_at.new.disk) true (Call.Write (item.0.0 / 4096) bytes true bytes)) c.deref.ensures c.in_ok-write_at.ensures.told in
    let changes : Changes (g.D.Disk.seen disk) (g.D.Disk.seen c.write_at.new.disk) (item.0.0 / 4096) item.1.value true =
    subst (λ (bytes : List ℕ). Changes (g.D.Disk.seen disk) (g.D.Disk.seen c.write_at.new.disk) (item.0.0 / 4096) bytes true) c.deref.ensures c.in_ok-write_at.ensures.seen in record {
      size = c.write_at.ensures.size ∙ c.loop-at.invariant.size;
      same = same_goes_on batch c.loop-at.at-index (item.0, item.1.value) (g.D.Disk.seen c.args.disk.now) (g.D.Disk.seen disk) (g.D.Disk.seen c.write_at.new.disk) c.deref.result.now (is_ok c.write_at.result) next c.loop-at.invariant.same c.write_at.ensures.seen;
      written = written_goes_on batch c.loop-at.at-index (item.0, item.1.value) (g.D.Disk.count disk) (g.D.Disk.seen disk) (g.D.Disk.seen c.write_at.new.disk) c.requires.once next inside (g.met.D.Disk.reads_all disk) c.loop-at.invariant.written changes;
      lost = regained_goes_on batch c.loop-at.at-index (item.0, item.1.value) (g.D.Disk.lost c.args.disk.now) (g.D.Disk.lost disk) (g.D.Disk.lost c.write_at.new.disk) next c.loop-at.invariant.lost c.in_ok-write_at.ensures.lost;
      calls = calls_go_on batch c.loop-at.at-index (item.0, item.1.value) (g.D.Disk.told c.args.disk.now) (g.D.Disk.told disk) (g.D.Disk.told c.write_at.new.disk) next c.loop-at.invariant.calls written;
      crash = so_far_writes batch c.loop-at.at-index (item.0, item.1.value) (g.D.Disk.told c.args.disk.now) (g.D.Disk.told disk) (g.D.Disk.told c.write_at.new.disk) (g.D.Disk.seen disk) (g.D.Disk.seen c.write_at.new.disk)
          (g.D.Disk.count disk) c.deref.result.now (is_ok c.write_at.result) read next inside place.not_super c.loop-at.invariant.crash c.write_at.ensures.told;
      counted = omega (arith, c.loop-at.invariant.counted, c.write_at.ensures.cause.0);
    }

pub returns-clause-written : goal.returns-clause-written
returns-clause-written g c =
    let past : length (blocks_of c.args.batch.now) ≤ c.loop-at.at-index = omega (arith, length-blocks_of c.args.batch.now) in
    written_all (blocks_of c.args.batch.now) c.loop-at.at-index (g.D.Disk.seen c.loop-at.disk) past c.loop-at.invariant.written

pub returns-in_err-write_at-clause-cut_off : goal.returns-in_err-write_at-clause-cut_off
returns-in_err-write_at-clause-cut_off g c =
    let item = c.loop-at-item.result in
    let disk = c.loop-at.disk in
    let new = c.write_at.new.disk in
    let within : c.loop-at.at-index < length c.args.batch.now = omega arith in
    let next : IsNext (blocks_of c.args.batch.now) c.loop-at.at-index (item.0, item.1.value) = next_block c.args.batch.now c.loop-at.at-index item within c.loop-at-item.is in
    let failed : Continues (g.D.Disk.told disk) (g.D.Disk.told new) false (written (item.0.0 / 4096) item.1.value false (g.D.Disk.seen new)) =
    subst (λ (bytes : List ℕ). Continues (g.D.Disk.told disk) (g.D.Disk.told new) false (written (item.0.0 / 4096) bytes false (g.D.Disk.seen new))) c.deref.ensures c.in_err-write_at.ensures.told in
    to_on_err _ (write_failed (blocks_of c.args.batch.now) c.loop-at.at-index (item.0, item.1.value) (g.D.Disk.told c.args.disk.now) (g.D.Disk.told disk) (g.D.Disk.told new) (g.D.Disk.seen new) next c.loop-at.invariant.calls failed)

pub returns-clause-lost : goal.returns-clause-lost
returns-clause-lost g c =
    let past : length (blocks_of c.args.batch.now) ≤ c.loop-at.at-index = omega (arith, length-blocks_of c.args.batch.now) in
    regained_all (blocks_of c.args.batch.now) c.loop-at.at-index (g.D.Disk.lost c.args.disk.now) (g.D.Disk.lost c.loop-at.disk) (take_all c.loop-at.at-index (blocks_of c.args.batch.now) past) c.loop-at.invariant.lost

pub returns-clause-calls : goal.returns-clause-calls
returns-clause-calls g c =
    let past : length (blocks_of c.args.batch.now) ≤ c.loop-at.at-index = omega (arith, length-blocks_of c.args.batch.now) in
    calls_all (blocks_of c.args.batch.now) c.loop-at.at-index (g.D.Disk.told c.args.disk.now) (g.D.Disk.told c.loop-at.disk) (take_all c.loop-at.at-index (blocks_of c.args.batch.now) past) c.loop-at.invariant.calls
