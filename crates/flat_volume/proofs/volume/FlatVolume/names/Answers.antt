use Rattle.std.proofs.Common.{◌≡◌, ℕ, ◌∙◌, ap, sym, subst, map, List, Some}
use Rattle.std.specs.Option.{is_some, IfSome}
use Rattle.std.specs.FinMap.{get}
use Rattle.std.proofs.lemmas.Bool.{true≢false}
use Rattle.flat_sub.specs.declared.sub.FlatSub.{FlatSub}
use Rattle.flat_model.specs.Volume.{RunSub}
use Rattle.flat_model.specs.Unmarked.{unmarked}
use Rattle.flat_sub.specs.View.{sub_view, IsWellKept}
use Rattle.flat_volume.proofs.Bare.{unmarked_names}
use Rattle.flat_record.proofs.Tables.{position_below}
use Rattle.flat_volume.proofs.Views.{view_at, view_nowhere}
use Rattle.flat_volume.proofs.volume.FlatVolume.names.Goals as goal

pub unreachable-requires : goal.unreachable-requires
unreachable-requires c =
    true≢false (sym c.requires ∙ ap (λ v. is_some (get v c.args.sub.0)) (sym c.self.view_is) ∙ ap is_some (view_nowhere c.self.inside.subs.items c.args.sub.0 (sym c.in_default.ensures)))

pub returns : goal.returns
returns c =
    let subs : List (ℕ × FlatSub) = c.self.inside.subs.items in
    let lent : ℕ × FlatSub = c.index-entry.result.now in
    let there : get c.args.self.now c.args.sub.0 ≡ Some (sub_view lent.1) =
    ap (λ v. get v c.args.sub.0) (sym c.self.view_is) ∙ view_at subs c.in-Some.at c.args.sub.0 lent (sym c.in-Some.ensures) ∙ ap (λ (e : ℕ × FlatSub). Some (sub_view e.1)) (sym c.index-entry.ensures) in
    let kept : IsWellKept lent.1 = subst (λ (e : ℕ × FlatSub). IsWellKept e.1) (sym c.index-entry.ensures) (c.self.invariant.each c.in-Some.at lent (position_below _ subs c.in-Some.at (sym c.in-Some.ensures))) in
    subst (λ o. IfSome o (λ (run : RunSub). c.as_slice.result.now ≡ map unmarked run.sub.names)) (sym there) (c.as_slice.ensures.value ∙ sym (unmarked_names lent.1.names.items lent.1.near.items kept.marked))
