use Rattle.std.proofs.Common.{◌∙◌, ap, sym}
use Rattle.std.specs.Option.{is_some}
use Rattle.std.specs.FinMap.{get}
use Rattle.flat_volume.proofs.Views.{view_somewhere, view_nowhere}
use Rattle.flat_volume.proofs.volume.FlatVolume.has_sub.Goals as goal

pub returns-in-Some : goal.returns-in-Some
returns-in-Some c = sym (ap (λ v. is_some (get v c.args.sub.0)) (sym c.self.view_is) ∙ view_somewhere c.self.inside.subs.items c.in-Some.field-0 c.args.sub.0 (sym c.in-Some.ensures))

pub returns-in-None : goal.returns-in-None
returns-in-None c = sym (ap (λ v. is_some (get v c.args.sub.0)) (sym c.self.view_is) ∙ ap is_some (view_nowhere c.self.inside.subs.items c.args.sub.0 (sym c.in-None.ensures)))
