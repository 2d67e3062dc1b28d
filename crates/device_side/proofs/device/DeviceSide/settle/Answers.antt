use Rattle.std.proofs.Common.{◌≡◌, ◌∙◌, [], ℕ, Bool, List, Option, All, is_ok, map, true, refl, sym, subst}
use Rattle.blk_base.specs.Trees.{AtBlock}
use Rattle.disk_model.specs.Disk.{Call, Continues, IfBoth, IfTold, Image}
use Rattle.batch_write.specs.Batch.{HasBlock, NoSuper, Regained, SameOutside, numbers_of, settle_calls, write_call}
use Rattle.batch_write.proofs.CallLemmas.{cut_off, until_failed}
use Rattle.batch_write.proofs.ImageLemmas.{from_ok, to_on_ok}
use Rattle.batch_write.proofs.MomentLemmas.{batch_settles, so_far_flushes}
use Rattle.device_side.specs.Device.{to_write}
use Rattle.device_side.proofs.Joining.{to_err}
use Rattle.device_side.proofs.device.DeviceSide.settle.Goals as goal

pub returns-clause-changes : goal.returns-clause-changes
returns-clause-changes g c =
    let batch : List AtBlock = to_write c.args.self.now c.args.batch.now in
    let changes = c.write_all.ensures.changes in record {
      size = c.flush.ensures.size ∙ changes.size;
      same = subst (λ (seen : Option Image). IfBoth (g.D.Disk.seen c.args.disk.now) seen (SameOutside (numbers_of batch))) (sym c.flush.ensures.seen) changes.same;
      crash = so_far_flushes (numbers_of batch) (g.D.Disk.told c.args.disk.now) (g.D.Disk.told c.write_all.new.disk) (g.D.Disk.told c.flush.new.self) (is_ok c.flush.result) changes.crash c.flush.ensures.told;
    }

pub returns-clause-settled : goal.returns-clause-settled
returns-clause-settled g c =
    let batch : List AtBlock = to_write c.args.self.now c.args.batch.now in
    let none : NoSuper batch = λ k d within. (c.requires.places.places k d within).not_super in
    let new = c.flush.new.self in
    let all = c.in_ok-write_all.ensures.written in
    let kept : g.D.Disk.lost new ≡ g.D.Disk.lost c.write_all.new.disk → Regained (numbers_of batch) (g.D.Disk.lost c.args.disk.now) (g.D.Disk.lost new) = λ same.
    subst (λ (lost : List ℕ). Regained (numbers_of batch) (g.D.Disk.lost c.args.disk.now) lost) (sym same) all.lost in
    let written : IfTold (g.D.Disk.seen new) (λ image. All (HasBlock image) batch) = subst (λ (seen : Option Image). IfTold seen (λ image. All (HasBlock image) batch)) (sym c.flush.ensures.seen) all.written in
    to_on_ok c.flush.result (λ ok. batch_settles batch (g.D.Disk.told c.write_all.new.disk) (g.D.Disk.told new) (g.D.Disk.seen new) (g.D.Disk.lost c.args.disk.now) (g.D.Disk.lost new) (is_ok c.flush.result) none (g.met.D.Disk.reads_as_told new) (g.met.D.Disk.lost_as_told new) written
    (kept (from_ok c.flush.result ok c.flush.ensures.lost)) c.flush.ensures.told ok)

pub returns-clause-cut_off : goal.returns-clause-cut_off
returns-clause-cut_off g c =
    let batch : List AtBlock = to_write c.args.self.now c.args.batch.now in
    let before = g.D.Disk.told c.args.disk.now in
    let mid = g.D.Disk.told c.write_all.new.disk in
    let new = g.D.Disk.told c.flush.new.self in
    to_err c.flush.result (λ failed. cut_off before new (settle_calls batch) (map write_call batch) (Call.Flush true) [] refl
    (until_failed before mid new (map write_call batch) (Call.Flush true) [] c.in_ok-write_all.ensures.written.calls
    (subst (λ (ok : Bool). Continues mid new ok (Call.Flush ok)) failed c.flush.ensures.told)))
