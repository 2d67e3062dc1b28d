use Rattle.std.proofs.Common.{◌≡◌, ◌++◌, ◌∷◌, [], List, ℕ, Option, append_assoc, ap, subst, sym, ◌∙◌, false, is_ok, Result, Err, arith}
use Rattle.std.proofs.lemmas.Grind.{common_steps}
use Rattle.disk_model.specs.declared.fault.DeviceFault.{DeviceFault}
use Rattle.disk_model.specs.declared.fault.DeviceFault.TheVariants as fault
use Rattle.blk_base.specs.Trees.{AtBlock}
use Rattle.disk_model.specs.Disk.{Call, EveryMoment, GoesOn, GoesOnUntil, IfBoth, IsCutOff, TellsMore, Told}
use Rattle.disk_model.proofs.CrashLaws.{TellsMore-joins}
use Rattle.batch_write.specs.Batch.{HasBatch, HasWritten, IsOldOrNew, LeavesOnly, SameOutside, numbers_of, settle_calls, super_call}
use Rattle.batch_write.proofs.CallLemmas.{cut_off-longer}
use Rattle.batch_write.proofs.ImageLemmas.{from_ok, to_on_ok}
use Rattle.device_side.specs.Device.{Device, after_done, after_tried, again_calls, rewritten, to_write}
use Rattle.device_side.specs.Finish.{AtBlocks, AtSuper, IsFinishOf, IsStopped}
use Rattle.device_side.proofs.Again.{untried_after, untried_first, written_after}
use Rattle.device_side.proofs.Finished.{finish_is}
use Rattle.device_side.proofs.Joining.{both_joined, both_weaker, cut_behind, from_err, until_behind}
use Rattle.device_side.proofs.device.DeviceSide.finish.Goals as goal

pub returns-in_err-map_err-clause-cut_off : goal.returns-in_err-map_err-clause-cut_off
returns-in_err-map_err-clause-cut_off g c = λ failed.
    let before = g.D.Disk.told c.args.disk.now in
    let new = g.D.Disk.told c.write_again.new.disk in
    cut_off-longer before new (again_calls c.args.self.now.failed) (settle_calls (to_write c.args.self.now c.args.batch.now))
    (from_err c.write_again.result (sym c.in_err-map_err.ensures.variant) c.write_again.ensures.cut_off)

pub returns-in_err-map_err-clause-seen_untried : goal.returns-in_err-map_err-clause-seen_untried
returns-in_err-map_err-clause-seen_untried g c = λ failed.
    let numbers : List ℕ = numbers_of (to_write c.args.self.now c.args.batch.now) in
    both_weaker (SameOutside (16 ∷ [])) (SameOutside (16 ∷ numbers)) (g.D.Disk.seen c.args.disk.now) (g.D.Disk.seen c.write_again.new.disk) (untried_first numbers) c.write_again.ensures.seen

pub returns-clause-calls : goal.returns-clause-calls
returns-clause-calls g c =
    let batch : List AtBlock = to_write c.args.self.now c.args.batch.now in
    let before = g.D.Disk.told c.args.disk.now in
    let mid = g.D.Disk.told c.write_again.new.disk in
    let new = g.D.Disk.told c.commit.new.disk in
    let again : c.write_again.new.self ≡ rewritten c.args.self.now = from_ok c.write_again.result c.in_ok-map_err.ensures.variant c.write_again.ensures.ok in
    let same : to_write c.write_again.new.self c.args.batch.now ≡ batch = ap (λ (device : Device). to_write device c.args.batch.now) again in
    let called : TellsMore before mid (again_calls c.args.self.now.failed) = from_ok c.write_again.result c.in_ok-map_err.ensures.variant c.write_again.ensures.calls in
    to_on_ok c.commit.result (λ ok. subst (λ (l : List Call). TellsMore before new l) (sym (append_assoc (again_calls c.args.self.now.failed) (settle_calls batch) (super_call c.args.batch.now.superblock.value ∷ [])))
    (TellsMore-joins before mid new (again_calls c.args.self.now.failed) (settle_calls batch ++ super_call c.args.batch.now.superblock.value ∷ []) called
    (subst (λ (l : List AtBlock). TellsMore mid new (settle_calls l ++ super_call c.args.batch.now.superblock.value ∷ [])) same (from_ok c.commit.result ok c.commit.ensures.calls))))

pub returns-clause-cut_off : goal.returns-clause-cut_off
returns-clause-cut_off g c = λ failed.
    let batch : List AtBlock = to_write c.args.self.now c.args.batch.now in
    let before = g.D.Disk.told c.args.disk.now in
    let mid = g.D.Disk.told c.write_again.new.disk in
    let new = g.D.Disk.told c.commit.new.disk in
    let again : c.write_again.new.self ≡ rewritten c.args.self.now = from_ok c.write_again.result c.in_ok-map_err.ensures.variant c.write_again.ensures.ok in
    let same : to_write c.write_again.new.self c.args.batch.now ≡ batch = ap (λ (device : Device). to_write device c.args.batch.now) again in
    let called : TellsMore before mid (again_calls c.args.self.now.failed) = from_ok c.write_again.result c.in_ok-map_err.ensures.variant c.write_again.ensures.calls in
    cut_behind before mid new (again_calls c.args.self.now.failed) (settle_calls batch) called
    (subst (λ (l : List AtBlock). IfBoth mid new (λ x y. IsCutOff x y (settle_calls l))) same (c.commit.ensures.cut_off failed))

pub returns-clause-cut_last : goal.returns-clause-cut_last
returns-clause-cut_last g c = λ failed.
    let batch : List AtBlock = to_write c.args.self.now c.args.batch.now in
    let before = g.D.Disk.told c.args.disk.now in
    let mid = g.D.Disk.told c.write_again.new.disk in
    let new = g.D.Disk.told c.commit.new.disk in
    let again : c.write_again.new.self ≡ rewritten c.args.self.now = from_ok c.write_again.result c.in_ok-map_err.ensures.variant c.write_again.ensures.ok in
    let same : to_write c.write_again.new.self c.args.batch.now ≡ batch = ap (λ (device : Device). to_write device c.args.batch.now) again in
    let called : TellsMore before mid (again_calls c.args.self.now.failed) = from_ok c.write_again.result c.in_ok-map_err.ensures.variant c.write_again.ensures.calls in
    until_behind before mid new (again_calls c.args.self.now.failed) (settle_calls batch) (super_call c.args.batch.now.superblock.value) called
    (subst (λ (l : List AtBlock). IfBoth mid new (λ x y. GoesOnUntil x y (settle_calls l) (super_call c.args.batch.now.superblock.value))) same (c.commit.ensures.cut_last failed))

pub returns-clause-seen : goal.returns-clause-seen
returns-clause-seen g c =
    let batch : List AtBlock = to_write c.args.self.now c.args.batch.now in
    let before = g.D.Disk.seen c.args.disk.now in
    let mid = g.D.Disk.seen c.write_again.new.disk in
    let new = g.D.Disk.seen c.commit.new.disk in
    let again : c.write_again.new.self ≡ rewritten c.args.self.now = from_ok c.write_again.result c.in_ok-map_err.ensures.variant c.write_again.ensures.ok in
    let same : to_write c.write_again.new.self c.args.batch.now ≡ batch = ap (λ (device : Device). to_write device c.args.batch.now) again in
    to_on_ok c.commit.result (λ ok. both_joined (SameOutside (16 ∷ [])) (HasWritten batch) (HasWritten batch) before mid new (written_after batch) c.write_again.ensures.seen
    (subst (λ (l : List AtBlock). IfBoth mid new (HasWritten l)) same (from_ok c.commit.result ok c.commit.ensures.seen)))

pub returns-clause-seen_tried : goal.returns-clause-seen_tried
returns-clause-seen_tried g c = λ failed.
    let batch : List AtBlock = to_write c.args.self.now c.args.batch.now in
    let before = g.D.Disk.seen c.args.disk.now in
    let mid = g.D.Disk.seen c.write_again.new.disk in
    let new = g.D.Disk.seen c.commit.new.disk in
    let again : c.write_again.new.self ≡ rewritten c.args.self.now = from_ok c.write_again.result c.in_ok-map_err.ensures.variant c.write_again.ensures.ok in
    let same : to_write c.write_again.new.self c.args.batch.now ≡ batch = ap (λ (device : Device). to_write device c.args.batch.now) again in
    both_joined (SameOutside (16 ∷ [])) (HasWritten batch) (HasWritten batch) before mid new (written_after batch) c.write_again.ensures.seen
    (subst (λ (l : List AtBlock). IfBoth mid new (HasWritten l)) same (c.commit.ensures.seen_tried failed))

pub returns-clause-seen_untried : goal.returns-clause-seen_untried
returns-clause-seen_untried g c = λ failed.
    let batch : List AtBlock = to_write c.args.self.now c.args.batch.now in
    let before = g.D.Disk.seen c.args.disk.now in
    let mid = g.D.Disk.seen c.write_again.new.disk in
    let new = g.D.Disk.seen c.commit.new.disk in
    let again : c.write_again.new.self ≡ rewritten c.args.self.now = from_ok c.write_again.result c.in_ok-map_err.ensures.variant c.write_again.ensures.ok in
    let same : to_write c.write_again.new.self c.args.batch.now ≡ batch = ap (λ (device : Device). to_write device c.args.batch.now) again in
    both_joined (SameOutside (16 ∷ [])) (SameOutside (numbers_of batch)) (SameOutside (16 ∷ numbers_of batch)) before mid new (untried_after (numbers_of batch)) c.write_again.ensures.seen
    (subst (λ (l : List AtBlock). IfBoth mid new (SameOutside (numbers_of l))) same (c.commit.ensures.seen_untried failed))

pub returns-clause-crash : goal.returns-clause-crash
returns-clause-crash g c = λ none.
    let batch : List AtBlock = to_write c.args.self.now c.args.batch.now in
    let before = g.D.Disk.told c.args.disk.now in
    let mid = g.D.Disk.told c.write_again.new.disk in
    let new = g.D.Disk.told c.commit.new.disk in
    let again : c.write_again.new.self ≡ rewritten c.args.self.now = from_ok c.write_again.result c.in_ok-map_err.ensures.variant c.write_again.ensures.ok in
    let same : to_write c.write_again.new.self c.args.batch.now ≡ batch = ap (λ (device : Device). to_write device c.args.batch.now) again in
    let begun : mid ≡ before = ap g.D.Disk.told (c.write_again.ensures.none none).1 in
    subst (λ (told : Option Told). IfBoth told new (λ old now. EveryMoment old now (IsOldOrNew old batch c.args.batch.now.superblock.value))) begun
    (subst (λ (l : List AtBlock). IfBoth mid new (λ old now. EveryMoment old now (IsOldOrNew old l c.args.batch.now.superblock.value))) same c.commit.ensures.crash)

pub returns-clause-done : goal.returns-clause-done
returns-clause-done g c = λ none.
    let batch : List AtBlock = to_write c.args.self.now c.args.batch.now in
    let before = g.D.Disk.told c.args.disk.now in
    let mid = g.D.Disk.told c.write_again.new.disk in
    let new = g.D.Disk.told c.commit.new.disk in
    let again : c.write_again.new.self ≡ rewritten c.args.self.now = from_ok c.write_again.result c.in_ok-map_err.ensures.variant c.write_again.ensures.ok in
    let same : to_write c.write_again.new.self c.args.batch.now ≡ batch = ap (λ (device : Device). to_write device c.args.batch.now) again in
    let begun : mid ≡ before = ap g.D.Disk.told (c.write_again.ensures.none none).1 in
    to_on_ok c.commit.result (λ ok. subst (λ (told : Option Told). IfBoth told new (λ old now. LeavesOnly now (HasBatch old batch c.args.batch.now.superblock.value))) begun
    (subst (λ (l : List AtBlock). IfBoth mid new (λ old now. LeavesOnly now (HasBatch old l c.args.batch.now.superblock.value))) same (from_ok c.commit.result ok c.commit.ensures.done)))

pub returns-in_err-map_err-clause-goes_on : goal.returns-in_err-map_err-clause-goes_on
returns-in_err-map_err-clause-goes_on g c =
    let before = g.D.Disk.told c.args.disk.now in
    let new = g.D.Disk.told c.write_again.new.disk in
    let device : Device = c.args.self.now in
    let after : Device = c.write_again.new.self in
    let is_err : is_ok c.write_again.result ≡ false = sym c.in_err-map_err.ensures.variant in
    let same : after ≡ device = from_err c.write_again.result is_err c.write_again.ensures.err in
    let cut : IfBoth before new (IsStopped device after c.args.batch.now) = both_weaker (λ x y. IsCutOff x y (again_calls device.failed)) (IsStopped device after c.args.batch.now) before new
    (λ x y here. AtSuper same here) (from_err c.write_again.result is_err c.write_again.ensures.cut_off) in
    let is : c.from_residual.result ≡ Err (fault.Disk false) = grind (arith, common_steps) in
    subst (λ (result : Result (Unit {0}) DeviceFault). IfBoth before new (IsFinishOf device after c.args.batch.now result)) (sym is) cut

pub returns-clause-goes_on : goal.returns-clause-goes_on
returns-clause-goes_on g c =
    let device : Device = c.args.self.now in
    let batch : List AtBlock = to_write device c.args.batch.now in
    let before = g.D.Disk.told c.args.disk.now in
    let mid = g.D.Disk.told c.write_again.new.disk in
    let new = g.D.Disk.told c.commit.new.disk in
    let after : Device = c.commit.new.self in
    let again : c.write_again.new.self ≡ rewritten device = from_ok c.write_again.result c.in_ok-map_err.ensures.variant c.write_again.ensures.ok in
    let same : to_write c.write_again.new.self c.args.batch.now ≡ batch = ap (λ (one : Device). to_write one c.args.batch.now) again in
    let called : TellsMore before mid (again_calls device.failed) = from_ok c.write_again.result c.in_ok-map_err.ensures.variant c.write_again.ensures.calls in
    finish_is device after c.args.batch.now c.commit.result before new
    (to_on_ok c.commit.result (λ ok. from_ok c.commit.result ok c.commit.ensures.ok ∙ ap (λ (one : Device). after_done one c.args.batch.now) again))
    (λ failed. c.commit.ensures.tried failed ∙ ap (λ (one : Device). after_tried one c.args.batch.now) again)
    (returns-clause-calls g c) (returns-clause-cut_last g c)
    (λ failed. both_joined (λ x y. GoesOn x y (again_calls device.failed)) (λ x y. IsCutOff x y (settle_calls batch)) (IsStopped device after c.args.batch.now) before mid new
    (λ x y z here there. AtBlocks (c.commit.ensures.untried failed ∙ again) y here there) called
    (subst (λ (l : List AtBlock). IfBoth mid new (λ x y. IsCutOff x y (settle_calls l))) same (c.commit.ensures.cut_off failed)))
