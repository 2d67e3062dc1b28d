use Rattle.std.proofs.Common.{ℕ, ◌∙◌, ap, sym, Some}
use Rattle.std.specs.FinMap.{get}
use Rattle.flat_model.specs.Volume.{RunVolume}
use Rattle.flat_sub.specs.declared.sub.FlatSub.{FlatSub}
use Rattle.flat_sub.specs.View.{sub_view}
use Rattle.flat_volume.proofs.Views.{view_at, view_nowhere}
use Rattle.flat_volume.proofs.volume.FlatVolume.sub.Goals as goal

pub returns-in-Some-clause-view : goal.returns-in-Some-clause-view
returns-in-Some-clause-view c =
    sym (ap (λ (v : RunVolume). get v c.args.sub.0) (sym c.self.view_is) ∙ view_at c.self.inside.subs.items c.in-Some.at c.args.sub.0 c.index-entry.result.now (sym c.in-Some.ensures) ∙ ap (λ (e : ℕ × FlatSub). Some (sub_view e.1)) (sym c.index-entry.ensures))

pub returns-in-None-clause-view : goal.returns-in-None-clause-view
returns-in-None-clause-view c = sym (ap (λ (v : RunVolume). get v c.args.sub.0) (sym c.self.view_is) ∙ view_nowhere c.self.inside.subs.items c.args.sub.0 (sym c.in-None.ensures))
