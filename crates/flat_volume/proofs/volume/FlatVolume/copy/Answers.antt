use Rattle.std.proofs.Common.{◌≡◌, ℕ, [], ◌∷◌, ◌++◌, ◌∙◌, ap, sym, subst, arith}
use Rattle.std.specs.List.{All}
use Rattle.std.specs.FinMap.{from_entries}
use Rattle.std.proofs.lemmas.List.Elements.{All-push}
use Rattle.flat_sub.specs.declared.sub.FlatSub.{FlatSub}
use Rattle.flat_sub.specs.View.{IsWellKept}
use Rattle.flat_volume.proofs.Bare.{seen}
use Rattle.flat_volume.proofs.Copied.{copied_more, copied_all, copied_kept}
use Rattle.flat_volume.proofs.volume.FlatVolume.copy.Goals as goal

pub loop-entry-init : goal.loop-entry-init
loop-entry-init c = record {
  seen_so_far = ap seen c.new-subs.ensures.items;
  each = subst (All (λ (e : ℕ × FlatSub). IsWellKept e.1)) (sym c.new-subs.ensures.items) (λ k d below. absurd (omega arith));
}

pub loop-entry-preserved : goal.loop-entry-preserved
loop-entry-preserved c =
    let all = c.deref-entry-items.result.now in
    let before = c.loop-entry.subs.items in
    let entry : ℕ × FlatSub = (c.entry-item.result.0, c.in_ok-copy_sub.field-0) in
    let is : c.push.new.self.items ≡ before ++ entry ∷ [] = c.in_ok-push.ensures.items in
    record {
      seen_so_far = ap seen is ∙ copied_more all before c.loop-entry.entry-index c.entry-item.result c.in_ok-copy_sub.field-0 (omega (arith, c.loop-entry-test.true)) c.entry-item.is c.in_ok-copy_sub.ensures.view c.loop-entry.invariant.seen_so_far;
      each = subst (All (λ (e : ℕ × FlatSub). IsWellKept e.1)) (sym is) (All-push (λ e. IsWellKept e.1) before entry c.loop-entry.invariant.each c.in_ok-copy_sub.ensures.kept);
    }

pub invariant_of-result : goal.invariant_of-result
invariant_of-result c =
    let all = c.deref-entry-items.result.now in
    let same = copied_all all c.loop-entry.subs.items c.loop-entry.entry-index c.loop-entry-test.false c.loop-entry.invariant.seen_so_far ∙ ap seen c.deref-entry-items.ensures.value in
    copied_kept c.self.inside.subs.items c.loop-entry.subs.items c.self.invariant same c.loop-entry.invariant.each

pub returns : goal.returns
returns c =
    let all = c.deref-entry-items.result.now in
    let same = copied_all all c.loop-entry.subs.items c.loop-entry.entry-index c.loop-entry-test.false c.loop-entry.invariant.seen_so_far ∙ ap seen c.deref-entry-items.ensures.value in
    ap from_entries same ∙ c.self.view_is
