use Rattle.std.proofs.Common.{◌∙◌, ap, sym}
use Rattle.std.specs.Option.{is_some}
use Rattle.std.specs.FinMap.{get}
use Rattle.std.proofs.lemmas.Bool.{true≢false}
use Rattle.flat_model.specs.Names.{FlatName}
use Rattle.flat_volume.specs.Building.{at_sub}
use Rattle.flat_sub.specs.Building.{with_name}
use Rattle.flat_sub.specs.View.{name_view}
use Rattle.flat_volume.proofs.Views.{on_ok, on_err, view_set, view_same, view_nowhere}
use Rattle.flat_volume.proofs.Kept.{kept_set}
use Rattle.flat_volume.proofs.volume.FlatVolume.put_name.Goals as goal

pub returns-clause-ok : goal.returns-clause-ok
returns-clause-ok c =
    let new : FlatName = name_view c.args.at c.args.near in
    on_ok c.add_name.result (λ added.
    view_set c.self.inside.subs.items c.in-Some.place c.args.sub.0 c.index_mut-entry.result.now c.add_name.new.self (with_name new) (sym c.in-Some.ensures) c.index_mut-entry.ensures.value added
    ∙ ap (λ v. at_sub v c.args.sub.0 (with_name new)) c.self.view_is) c.add_name.ensures.ok

pub returns-clause-err : goal.returns-clause-err
returns-clause-err c =
    on_err c.add_name.result (λ same.
    view_same c.self.inside.subs.items c.in-Some.place c.args.sub.0 c.index_mut-entry.result.now c.add_name.new.self (sym c.in-Some.ensures) c.index_mut-entry.ensures.value same ∙ c.self.view_is) c.add_name.ensures.err

pub unreachable-requires : goal.unreachable-requires
unreachable-requires c =
    true≢false (sym c.requires ∙ ap (λ v. is_some (get v c.args.sub.0)) (sym c.self.view_is) ∙ ap is_some (view_nowhere c.self.inside.subs.items c.args.sub.0 (sym c.in_default.ensures)))

pub invariant_of-self : goal.invariant_of-self
invariant_of-self c = kept_set c.self.inside.subs.items c.in-Some.place c.args.sub.0 c.index_mut-entry.result.now c.add_name.new.self (sym c.in-Some.ensures) c.index_mut-entry.ensures.value (λ _. c.add_name.ensures.kept) c.self.invariant
