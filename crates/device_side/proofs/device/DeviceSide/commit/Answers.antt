use Rattle.std.proofs.Common.{◌≡◌, ◌<◌, ◌++◌, ◌∷◌, [], List, ℕ, Some, slice_get, arith, refl, subst, true}
use Rattle.blk_base.specs.Trees.{AtBlock}
use Rattle.disk_model.specs.Disk.{EveryMoment, GoesOnUntil, IfBoth, IfTold, TellsMore}
use Rattle.disk_model.proofs.CrashLaws.{TellsMore-joins}
use Rattle.batch_write.specs.Batch.{HasBatch, HasWritten, IsOldOrNew, LeavesOnly, NoSuper, settle_calls, super_call}
use Rattle.batch_write.proofs.CallLemmas.{until_failed}
use Rattle.batch_write.proofs.ImageLemmas.{from_ok, written_by, written_whole}
use Rattle.batch_write.proofs.MomentLemmas.{IsSettled, batch_moments, leaves_done}
use Rattle.device_side.specs.Device.{to_write}
use Rattle.device_side.proofs.Joining.{both_second}
use Rattle.device_side.proofs.device.DeviceSide.commit.Goals as goal

pub returns-in-Ok-clause-calls : goal.returns-in-Ok-clause-calls
returns-in-Ok-clause-calls g c =
    let batch : List AtBlock = to_write c.args.self.now c.args.batch.now in
    let before = g.D.Disk.told c.args.disk.now in
    let mid = g.D.Disk.told c.settle.new.disk in
    let new = g.D.Disk.told c.write_super_again.new.disk in
    subst (λ (superblock : List ℕ). TellsMore before new (settle_calls batch ++ super_call superblock ∷ [])) c.deref.ensures
    (TellsMore-joins before mid new (settle_calls batch) (super_call c.deref.result.now ∷ []) (from_ok c.settle.result c.in_ok-map_err.ensures.variant c.settle.ensures.calls) c.in-Ok.ensures.told)

pub returns-in-Ok-clause-seen : goal.returns-in-Ok-clause-seen
returns-in-Ok-clause-seen g c =
    let batch : List AtBlock = to_write c.args.self.now c.args.batch.now in
    let none : NoSuper batch = λ k d within. (c.requires.places.places k d within).not_super in
    written_by batch c.deref.result.now (g.D.Disk.seen c.args.disk.now) (g.D.Disk.seen c.settle.new.disk) (g.D.Disk.seen c.write_super_again.new.disk) true none
    c.settle.ensures.changes.same (from_ok c.settle.result c.in_ok-map_err.ensures.variant c.settle.ensures.written) c.in-Ok.ensures.seen

pub returns-in-Ok-clause-seen_super : goal.returns-in-Ok-clause-seen_super
returns-in-Ok-clause-seen_super g c =
    let batch : List AtBlock = to_write c.args.self.now c.args.batch.now in
    let none : NoSuper batch = λ k d within. (c.requires.places.places k d within).not_super in
    let mid = c.settle.new.disk in
    let inside : 16 < g.D.Disk.count mid = omega (arith, c.requires.super_inside, c.settle.ensures.changes.size) in
    subst (λ (superblock : List ℕ). IfTold (g.D.Disk.seen c.write_super_again.new.disk) (λ new. slice_get new 16 ≡ Some superblock)) c.deref.ensures
    (both_second (λ old new. HasWritten batch old new × (slice_get new 16 ≡ Some c.deref.result.now)) (λ new. slice_get new 16 ≡ Some c.deref.result.now) (g.D.Disk.seen c.args.disk.now) (g.D.Disk.seen c.write_super_again.new.disk) (λ old new both. both.1)
    (written_whole batch c.deref.result.now (g.D.Disk.count mid) (g.D.Disk.seen c.args.disk.now) (g.D.Disk.seen mid) (g.D.Disk.seen c.write_super_again.new.disk) true none inside (g.met.D.Disk.reads_all mid)
    c.settle.ensures.changes.same (from_ok c.settle.result c.in_ok-map_err.ensures.variant c.settle.ensures.written) c.in-Ok.ensures.seen refl))

pub returns-in-Ok-clause-crash : goal.returns-in-Ok-clause-crash
returns-in-Ok-clause-crash g c =
    let batch : List AtBlock = to_write c.args.self.now c.args.batch.now in
    let none : NoSuper batch = λ k d within. (c.requires.places.places k d within).not_super in
    let before = g.D.Disk.told c.args.disk.now in
    let new = g.D.Disk.told c.write_super_again.new.disk in
    let settled : IsSettled batch (g.D.Disk.told c.settle.new.disk) = from_ok c.settle.result c.in_ok-map_err.ensures.variant c.settle.ensures.settled in
    subst (λ (superblock : List ℕ). IfBoth before new (λ old now. EveryMoment old now (IsOldOrNew old batch superblock))) c.deref.ensures
    (batch_moments batch c.deref.result.now before (g.D.Disk.told c.settle.new.disk) new none c.settle.ensures.changes.crash settled c.write_super_again.ensures.crash)

pub returns-in-Ok-clause-done : goal.returns-in-Ok-clause-done
returns-in-Ok-clause-done g c =
    let batch : List AtBlock = to_write c.args.self.now c.args.batch.now in
    let none : NoSuper batch = λ k d within. (c.requires.places.places k d within).not_super in
    let before = g.D.Disk.told c.args.disk.now in
    let new = g.D.Disk.told c.write_super_again.new.disk in
    let settled : IsSettled batch (g.D.Disk.told c.settle.new.disk) = from_ok c.settle.result c.in_ok-map_err.ensures.variant c.settle.ensures.settled in
    subst (λ (superblock : List ℕ). IfBoth before new (λ old now. LeavesOnly now (HasBatch old batch superblock))) c.deref.ensures
    (leaves_done batch c.deref.result.now before (g.D.Disk.told c.settle.new.disk) new none c.settle.ensures.changes.crash settled c.in-Ok.ensures.done)

pub returns-in-Err-clause-cut_last : goal.returns-in-Err-clause-cut_last
returns-in-Err-clause-cut_last g c = λ failed.
    let batch : List AtBlock = to_write c.args.self.now c.args.batch.now in
    let before = g.D.Disk.told c.args.disk.now in
    let mid = g.D.Disk.told c.settle.new.disk in
    let new = g.D.Disk.told c.write_super_again.new.disk in
    subst (λ (superblock : List ℕ). IfBoth before new (λ old now. GoesOnUntil old now (settle_calls batch) (super_call superblock))) c.deref.ensures
    (until_failed before mid new (settle_calls batch) (super_call c.deref.result.now) _ (from_ok c.settle.result c.in_ok-map_err.ensures.variant c.settle.ensures.calls) c.in-Err.ensures.told)

pub returns-in-Err-clause-crash : goal.returns-in-Err-clause-crash
returns-in-Err-clause-crash g c =
    let batch : List AtBlock = to_write c.args.self.now c.args.batch.now in
    let none : NoSuper batch = λ k d within. (c.requires.places.places k d within).not_super in
    let before = g.D.Disk.told c.args.disk.now in
    let new = g.D.Disk.told c.write_super_again.new.disk in
    let settled : IsSettled batch (g.D.Disk.told c.settle.new.disk) = from_ok c.settle.result c.in_ok-map_err.ensures.variant c.settle.ensures.settled in
    subst (λ (superblock : List ℕ). IfBoth before new (λ old now. EveryMoment old now (IsOldOrNew old batch superblock))) c.deref.ensures
    (batch_moments batch c.deref.result.now before (g.D.Disk.told c.settle.new.disk) new none c.settle.ensures.changes.crash settled c.write_super_again.ensures.crash)
