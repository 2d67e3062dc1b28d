use Rattle.std.proofs.Common.{◌≡◌, ℕ, ◌∙◌, ap, sym, subst, arith, ◌++◌, ◌∷◌, []}
use Rattle.std.specs.List.{All}
use Rattle.std.specs.FinMap.{from_entries}
use Rattle.std.proofs.lemmas.List.Elements.{All-push}
use Rattle.flat_sub.specs.declared.sub.FlatSub.{FlatSub}
use Rattle.flat_sub.specs.View.{IsWellKept}
use Rattle.flat_volume.proofs.Bare.{seen, listed, bare_more, bare_mounted}
use Rattle.flat_volume.proofs.Kept.{bare_kept}
use Rattle.flat_volume.proofs.volume.FlatVolume.empty.Goals as goal

pub loop-number-init : goal.loop-number-init
loop-number-init c = (ap seen c.new-made.ensures.items, subst (All (λ (e : ℕ × FlatSub). IsWellKept e.1)) (sym c.new-made.ensures.items) (λ k d below. absurd (omega arith)))

pub loop-number-preserved : goal.loop-number-preserved
loop-number-preserved c =
    let before = c.loop-number.made.items in
    let entry : ℕ × FlatSub = (c.subvolume_id.result, c.in_ok-bare.field-0) in
    let is : c.push.new.self.items ≡ before ++ entry ∷ [] = c.in_ok-push.ensures.items in (
      bare_more c.loop-number.number c.subvolume_id.result before c.push.new.self.items c.in_ok-bare.field-0 is c.subvolume_id.ensures c.in_ok-bare.ensures.view c.loop-number.invariant.0,
      subst (All (λ (e : ℕ × FlatSub). IsWellKept e.1)) (sym is) (All-push (λ e. IsWellKept e.1) before entry c.loop-number.invariant.1 c.in_ok-bare.ensures.kept),
    )

pub invariant_of-result : goal.invariant_of-result
invariant_of-result c =
    let last : c.loop-number.number ≡ c.args.subs = omega (arith, c.loop-number-test.false, c.loop-number.auto.number-end) in
    bare_kept c.loop-number.made.items c.loop-number.number c.loop-number.invariant.0 c.loop-number.invariant.1 (omega (arith, last, c.requires.at_most_16))

pub returns : goal.returns
returns c =
    let last : c.loop-number.number ≡ c.args.subs = omega (arith, c.loop-number-test.false, c.loop-number.auto.number-end) in
    ap from_entries (c.loop-number.invariant.0 ∙ ap listed last) ∙ sym (bare_mounted c.args.subs)
