use Rattle.std.proofs.Common.{◌≡◌, ◌∷◌, [], ℕ, List, Option, Some, sym, ap, subst, true}
use Rattle.disk_model.specs.Disk.{IfBoth, Image, IsCutOff}
use Rattle.batch_write.specs.Batch.{SameOutside}
use Rattle.batch_write.proofs.CallLemmas.{to_on_err}
use Rattle.batch_write.proofs.ImageLemmas.{same_begins}
use Rattle.device_side.specs.Device.{again_calls}
use Rattle.device_side.proofs.Again.{again_cut_off, super_same}
use Rattle.device_side.proofs.device.DeviceSide.write_again.Goals.{in-Some+in_ok-write_super, in_default}
use Rattle.device_side.proofs.device.DeviceSide.write_again.Goals as goal

pub returns-in_err-write_super-clause-cut_off : goal.returns-in_err-write_super-clause-cut_off
returns-in_err-write_super-clause-cut_off g c =
    let there : c.args.self.now.failed ≡ Some c.in-Some.superblock = cc in
    to_on_err _ (subst (λ (failed : Option (List ℕ)). IfBoth (g.D.Disk.told c.args.disk.now) (g.D.Disk.told c.write_super.new.self) (λ old now. IsCutOff old now (again_calls failed))) (sym there)
    (again_cut_off (g.D.Disk.told c.args.disk.now) (g.D.Disk.told c.write_super.new.self) c.in-Some.superblock (g.D.Disk.seen c.write_super.new.self) c.in_err-write_super.ensures.told))

pub returns-clause-seen : goal.returns-clause-seen
returns-clause-seen g c =
    let before : Option Image = g.D.Disk.seen c.args.disk.now in
    let P : Option Image → Type 0 = λ seen. IfBoth before seen (SameOutside (16 ∷ [])) in
    elim c.match-self.branch [
      | in-Some+in_ok-write_super w ↦ subst P (ap g.D.Disk.seen (sym w.disk-is)) (super_same before (g.D.Disk.seen w.write_super.new.self) w.in-Some.superblock true w.in_ok-write_super.ensures.seen)
      | in_default w ↦ subst P (ap g.D.Disk.seen (sym w.disk-is)) (same_begins (16 ∷ []) before)
    ]
