use Rattle.std.proofs.Common.{◌∙◌, sym, ap, subst, set}
use Rattle.std.specs.Result.{IfOk}
use Rattle.std.specs.FinMap.{get}
use Rattle.blk_base.specs.declared.key.SubId.{SubId}
use Rattle.flat_model.specs.Volume.{RunVolume}
use Rattle.flat_volume.specs.View.{volume_view}
use Rattle.flat_volume.specs.Applying.{IsApplied}
use Rattle.flat_volume.proofs.Views.{on_err, view_same, view_nowhere}
use Rattle.flat_volume.proofs.Kept.{kept_set}
use Rattle.flat_volume.proofs.Choosing.{applied_across, applied_nowhere}
use Rattle.flat_volume.proofs.Changed.{applied_at}
use Rattle.flat_volume.proofs.Unmarking.{if_ok}
use Rattle.flat_volume.proofs.volume.FlatVolume.apply.Goals as goal

pub returns-then-not-is_within_sub-clause-done : goal.returns-then-not-is_within_sub-clause-done
returns-then-not-is_within_sub-clause-done c = applied_across c.args.self.now c.args.op.now (sym c.if-not-is_within_sub.ensures)

pub returns-in_default-clause-done : goal.returns-in_default-clause-done
returns-in_default-clause-done c =
    let run : RunVolume = c.args.self.now in
    applied_nowhere run c.args.op.now (sym c.if-not-is_within_sub.ensures)
    (ap (λ (s : SubId). get run s.0) (sym c.sub_of.ensures) ∙ ap (λ (v : RunVolume). get v c.sub_of.result.0) (sym c.self.view_is) ∙ view_nowhere c.self.inside.subs.items c.sub_of.result.0 (sym c.in_default.ensures))

pub invariant_of-self : goal.invariant_of-self
invariant_of-self c =
    kept_set c.self.inside.subs.items c.in-Some.at c.sub_of.result.0 c.index_mut-entry.result.now c.operate.new.sub (sym c.in-Some.ensures) c.index_mut-entry.ensures.value (λ before. c.operate.ensures.kept) c.self.invariant

pub returns-clause-done : goal.returns-clause-done
returns-clause-done c =
    let subs = c.self.inside.subs.items in
    let lent = c.index_mut-entry.result.now in
    let op = c.args.op.now in
    subst (λ (run : RunVolume). IfOk c.operate.result (IsApplied run (volume_view (set subs c.in-Some.at (lent.0, c.operate.new.sub))) op)) c.self.view_is
    (if_ok c.operate.result (λ answer comes. applied_at subs c.in-Some.at op c.sub_of.result lent c.operate.new.sub answer c.sub_of.ensures (sym c.if-not-is_within_sub.ensures) (sym c.in-Some.ensures) c.index_mut-entry.ensures.value c.self.invariant comes) c.operate.ensures.done)

pub returns-clause-err : goal.returns-clause-err
returns-clause-err c =
    on_err c.operate.result (λ same.
    view_same c.self.inside.subs.items c.in-Some.at c.sub_of.result.0 c.index_mut-entry.result.now c.operate.new.sub (sym c.in-Some.ensures) c.index_mut-entry.ensures.value same ∙ c.self.view_is) c.operate.ensures.err
