use Rattle.std.proofs.Common.{◌≢◌, ◌<◌, ◌/◌, List, ℕ, AllPairs, length, is_ok, arith, refl, sym, subst, ◌∙◌}
use Rattle.std.proofs.lemmas.Option.{get_or_from_slice_get}
use Rattle.blk_base.specs.Trees.{AtBlock}
use Rattle.batch_write.specs.Batch.{IsPlace, numbers_of}
use Rattle.batch_write.proofs.CallLemmas.{calls_begin, calls_go_on, regained_begins, regained_goes_on, to_on_err, write_failed}
use Rattle.batch_write.proofs.ImageLemmas.{IsNext, of_next, same_begins, same_goes_on, written_begins, written_goes_on}
use Rattle.batch_write.proofs.MomentLemmas.{IsRead, so_far_begins, so_far_writes}
use Rattle.device_side.proofs.Joining.{pairs_apart}
use Rattle.device_side.proofs.blocks.write_blocks.Goals as goal

pub loop-place-init : goal.loop-place-init
loop-place-init g c =
    let disk = c.args.disk.now in
    let batch : List AtBlock = c.args.blocks.now.pairs in
    let read : IsRead (g.D.Disk.told disk) (g.D.Disk.seen disk) (g.D.Disk.count disk) = record { as_told = g.met.D.Disk.reads_as_told disk; blocks = g.met.D.Disk.reads_blocks disk; all = g.met.D.Disk.reads_all disk } in record {
      end = c.len-place-end.ensures;
      size = refl;
      same = same_begins (numbers_of batch) (g.D.Disk.seen disk);
      written = written_begins batch (g.D.Disk.seen disk);
      lost = regained_begins batch (g.D.Disk.lost disk);
      calls = calls_begin batch (g.D.Disk.told disk);
      crash = so_far_begins (numbers_of batch) (g.D.Disk.told disk) (g.D.Disk.seen disk) (g.D.Disk.count disk) read;
      counted = omega arith;
    }

pub write_at-requires : goal.write_at-requires
write_at-requires g c =
    let item : AtBlock = (c.get.result.0, c.get.result.1.now) in
    let within : c.loop-place.place < length c.args.blocks.now.pairs = omega (arith, c.loop-place.invariant.end) in
    let next : IsNext c.args.blocks.now.pairs c.loop-place.place item = record { within = within; is = get_or_from_slice_get c.args.blocks.now.pairs c.loop-place.place item item c.get.ensures } in
    let place : IsPlace (g.D.Disk.count c.args.disk.now) item.0 = of_next (λ one. IsPlace (g.D.Disk.count c.args.disk.now) one.0) c.args.blocks.now.pairs c.loop-place.place item next c.requires.places in
    subst (λ (count : ℕ). IsPlace count item.0) (sym c.loop-place.invariant.size) place

pub returns-in_err-write_at-clause-changes : goal.returns-in_err-write_at-clause-changes
returns-in_err-write_at-clause-changes g c =
    let item : AtBlock = (c.get.result.0, c.get.result.1.now) in
    let disk = c.loop-place.disk in
    let batch : List AtBlock = c.args.blocks.now.pairs in
    let within : c.loop-place.place < length batch = omega (arith, c.loop-place.invariant.end) in
    let next : IsNext batch c.loop-place.place item = record { within = within; is = get_or_from_slice_get batch c.loop-place.place item item c.get.ensures } in
    let place : IsPlace (g.D.Disk.count c.args.disk.now) item.0 = of_next (λ one. IsPlace (g.D.Disk.count c.args.disk.now) one.0) batch c.loop-place.place item next c.requires.places in
    let read : IsRead (g.D.Disk.told disk) (g.D.Disk.seen disk) (g.D.Disk.count disk) = record { as_told = g.met.D.Disk.reads_as_told disk; blocks = g.met.D.Disk.reads_blocks disk; all = g.met.D.Disk.reads_all disk } in record {
      size = c.write_at.ensures.size ∙ c.loop-place.invariant.size;
      same = same_goes_on batch c.loop-place.place item (g.D.Disk.seen c.args.disk.now) (g.D.Disk.seen disk) (g.D.Disk.seen c.write_at.new.disk) item.1 (is_ok c.write_at.result) next c.loop-place.invariant.same c.write_at.ensures.seen;
      crash = so_far_writes batch c.loop-place.place item (g.D.Disk.told c.args.disk.now) (g.D.Disk.told disk) (g.D.Disk.told c.write_at.new.disk) (g.D.Disk.seen disk) (g.D.Disk.seen c.write_at.new.disk)
          (g.D.Disk.count disk) item.1 (is_ok c.write_at.result) read next (subst (λ (count : ℕ). item.0.0 / 4096 < count) (sym c.loop-place.invariant.size) place.inside) place.not_super c.loop-place.invariant.crash c.write_at.ensures.told;
    }

pub returns-in_err-write_at-clause-cut_off : goal.returns-in_err-write_at-clause-cut_off
returns-in_err-write_at-clause-cut_off g c =
    let item : AtBlock = (c.get.result.0, c.get.result.1.now) in
    let disk = c.loop-place.disk in
    let new = c.write_at.new.disk in
    let batch : List AtBlock = c.args.blocks.now.pairs in
    let within : c.loop-place.place < length batch = omega (arith, c.loop-place.invariant.end) in
    let next : IsNext batch c.loop-place.place item = record { within = within; is = get_or_from_slice_get batch c.loop-place.place item item c.get.ensures } in
    to_on_err _ (write_failed batch c.loop-place.place item (g.D.Disk.told c.args.disk.now) (g.D.Disk.told disk) (g.D.Disk.told new) (g.D.Disk.seen new) next c.loop-place.invariant.calls c.in_err-write_at.ensures.told)

pub loop-place-preserved : goal.loop-place-preserved
loop-place-preserved g c =
    let item : AtBlock = (c.get.result.0, c.get.result.1.now) in
    let disk = c.loop-place.disk in
    let new = c.write_at.new.disk in
    let batch : List AtBlock = c.args.blocks.now.pairs in
    let once : AllPairs (λ (one other : AtBlock). one.0.0 / 4096 ≢ other.0.0 / 4096) batch = pairs_apart batch c.requires.once in
    let within : c.loop-place.place < length batch = omega (arith, c.loop-place.invariant.end) in
    let next : IsNext batch c.loop-place.place item = record { within = within; is = get_or_from_slice_get batch c.loop-place.place item item c.get.ensures } in
    let place : IsPlace (g.D.Disk.count c.args.disk.now) item.0 = of_next (λ one. IsPlace (g.D.Disk.count c.args.disk.now) one.0) batch c.loop-place.place item next c.requires.places in
    let inside : item.0.0 / 4096 < g.D.Disk.count disk = subst (λ (count : ℕ). item.0.0 / 4096 < count) (sym c.loop-place.invariant.size) place.inside in
    let read : IsRead (g.D.Disk.told disk) (g.D.Disk.seen disk) (g.D.Disk.count disk) = record { as_told = g.met.D.Disk.reads_as_told disk; blocks = g.met.D.Disk.reads_blocks disk; all = g.met.D.Disk.reads_all disk } in record {
      end = c.loop-place.invariant.end;
      size = c.write_at.ensures.size ∙ c.loop-place.invariant.size;
      same = same_goes_on batch c.loop-place.place item (g.D.Disk.seen c.args.disk.now) (g.D.Disk.seen disk) (g.D.Disk.seen new) item.1 (is_ok c.write_at.result) next c.loop-place.invariant.same c.write_at.ensures.seen;
      written = written_goes_on batch c.loop-place.place item (g.D.Disk.count disk) (g.D.Disk.seen disk) (g.D.Disk.seen new) once next inside (g.met.D.Disk.reads_all disk) c.loop-place.invariant.written c.in_ok-write_at.ensures.seen;
      lost = regained_goes_on batch c.loop-place.place item (g.D.Disk.lost c.args.disk.now) (g.D.Disk.lost disk) (g.D.Disk.lost new) next c.loop-place.invariant.lost c.in_ok-write_at.ensures.lost;
      calls = calls_go_on batch c.loop-place.place item (g.D.Disk.told c.args.disk.now) (g.D.Disk.told disk) (g.D.Disk.told new) next c.loop-place.invariant.calls c.in_ok-write_at.ensures.told;
      crash = so_far_writes batch c.loop-place.place item (g.D.Disk.told c.args.disk.now) (g.D.Disk.told disk) (g.D.Disk.told new) (g.D.Disk.seen disk) (g.D.Disk.seen new)
          (g.D.Disk.count disk) item.1 (is_ok c.write_at.result) read next inside place.not_super c.loop-place.invariant.crash c.write_at.ensures.told;
      counted = omega (arith, c.loop-place.invariant.counted, c.write_at.ensures.cause.0);
    }
