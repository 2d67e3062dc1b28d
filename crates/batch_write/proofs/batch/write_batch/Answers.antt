use Rattle.std.proofs.Common.{◌<◌, ◌∷◌, [], List, arith, is_ok}
use Rattle.batch_write.specs.Batch.{AtBlock, NoSuper, blocks_of, numbers_of, settle_calls, super_call}
use Rattle.disk_model.proofs.CrashLaws.{TellsMore-joins}
use Rattle.batch_write.proofs.CallLemmas.{super_failed, super_told}
use Rattle.batch_write.proofs.ImageLemmas.{from_ok, to_on_ok, written_whole}
use Rattle.batch_write.proofs.MomentLemmas.{IsSettled, batch_moments, leaves_before_super, leaves_done, leaves_tried}
use Rattle.batch_write.proofs.batch.write_batch.Goals as goal

pub returns-in_err-map_err-clause-untried : goal.returns-in_err-map_err-clause-untried
returns-in_err-map_err-clause-untried g c = λ failed.
    leaves_before_super (numbers_of (blocks_of c.args.batch.now)) (g.D.Disk.told c.args.disk.now) (g.D.Disk.told c.settle.new.disk) c.settle.ensures.crash

pub returns-clause-seen : goal.returns-clause-seen
returns-clause-seen g c =
    let batch : List AtBlock = blocks_of c.args.batch.now in
    let none : NoSuper batch = λ k d within. (c.requires.places k d within).not_super in
    let mid = c.settle.new.disk in
    let within : 16 < g.D.Disk.count mid = omega (arith, c.requires.super_inside, c.settle.ensures.size) in
    to_on_ok c.write_super_again.result
    (λ ok. written_whole batch c.args.superblock.now (g.D.Disk.count mid) (g.D.Disk.seen c.args.disk.now) (g.D.Disk.seen mid) (g.D.Disk.seen c.write_super_again.new.disk) (is_ok c.write_super_again.result) none within (g.met.D.Disk.reads_all mid)
    c.settle.ensures.same (from_ok c.settle.result c.in_ok-map_err.ensures.variant c.settle.ensures.written) c.write_super_again.ensures.seen ok)

pub returns-clause-crash : goal.returns-clause-crash
returns-clause-crash g c =
    let batch : List AtBlock = blocks_of c.args.batch.now in
    let none : NoSuper batch = λ k d within. (c.requires.places k d within).not_super in
    let settled : IsSettled batch (g.D.Disk.told c.settle.new.disk) = from_ok c.settle.result c.in_ok-map_err.ensures.variant c.settle.ensures.settled in
    batch_moments batch c.args.superblock.now (g.D.Disk.told c.args.disk.now) (g.D.Disk.told c.settle.new.disk) (g.D.Disk.told c.write_super_again.new.disk) none c.settle.ensures.crash settled c.write_super_again.ensures.crash

pub returns-clause-done : goal.returns-clause-done
returns-clause-done g c =
    let batch : List AtBlock = blocks_of c.args.batch.now in
    let none : NoSuper batch = λ k d within. (c.requires.places k d within).not_super in
    let settled : IsSettled batch (g.D.Disk.told c.settle.new.disk) = from_ok c.settle.result c.in_ok-map_err.ensures.variant c.settle.ensures.settled in
    to_on_ok c.write_super_again.result
    (λ ok. leaves_done batch c.args.superblock.now (g.D.Disk.told c.args.disk.now) (g.D.Disk.told c.settle.new.disk) (g.D.Disk.told c.write_super_again.new.disk) none c.settle.ensures.crash settled
    (from_ok c.write_super_again.result ok c.write_super_again.ensures.done))

pub returns-clause-tried : goal.returns-clause-tried
returns-clause-tried g c = λ failed.
    let batch : List AtBlock = blocks_of c.args.batch.now in
    let none : NoSuper batch = λ k d within. (c.requires.places k d within).not_super in
    let settled : IsSettled batch (g.D.Disk.told c.settle.new.disk) = from_ok c.settle.result c.in_ok-map_err.ensures.variant c.settle.ensures.settled in
    leaves_tried batch c.args.superblock.now (g.D.Disk.told c.args.disk.now) (g.D.Disk.told c.settle.new.disk) (g.D.Disk.told c.write_super_again.new.disk) none c.settle.ensures.crash settled c.write_super_again.ensures.crash

pub returns-clause-calls : goal.returns-clause-calls
returns-clause-calls g c =
    let batch : List AtBlock = blocks_of c.args.batch.now in
    let mid = c.settle.new.disk in
    let new = c.write_super_again.new.disk in
    to_on_ok c.write_super_again.result
    (λ ok. TellsMore-joins (g.D.Disk.told c.args.disk.now) (g.D.Disk.told mid) (g.D.Disk.told new) (settle_calls batch) (super_call c.args.superblock.now ∷ [])
    (from_ok c.settle.result c.in_ok-map_err.ensures.variant c.settle.ensures.calls)
    (super_told (g.D.Disk.told mid) (g.D.Disk.told new) c.args.superblock.now (is_ok c.write_super_again.result) (g.D.Disk.seen new) ok c.write_super_again.ensures.told))

pub returns-clause-cut_last : goal.returns-clause-cut_last
returns-clause-cut_last g c = λ failed.
    let new = c.write_super_again.new.disk in
    super_failed (g.D.Disk.told c.args.disk.now) (g.D.Disk.told c.settle.new.disk) (g.D.Disk.told new) (settle_calls (blocks_of c.args.batch.now)) c.args.superblock.now c.write_super_again.result _ (g.D.Disk.seen new) failed
    (from_ok c.settle.result c.in_ok-map_err.ensures.variant c.settle.ensures.calls) c.write_super_again.ensures.told
