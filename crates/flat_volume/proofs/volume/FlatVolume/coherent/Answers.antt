use Rattle.std.proofs.Common.{◌≡◌, ℕ, true, take, get_or, length, refl, sym, ap, subst, ◌∙◌, arith}
use Rattle.std.specs.Ordering.{nat_cmp}
use Rattle.std.specs.List.{All}
use Rattle.std.specs.FinMap.{is_sorted}
use Rattle.std.proofs.Math.Seq.{take-length}
use Rattle.std.proofs.lemmas.Bool.{false≢true}
use Rattle.std.proofs.lemmas.List.{take_more}
use Rattle.std.proofs.lemmas.List.Elements.{All-push}
use Rattle.flat_model.specs.Volume.{RunVolume, volume_of}
use Rattle.flat_model.specs.Coherent.{IsCoherent, IsCoherentVolume}
use Rattle.flat_sub.specs.declared.sub.FlatSub.{FlatSub}
use Rattle.flat_sub.specs.View.{sub_view}
use Rattle.flat_volume.specs.View.{volume_view}
use Rattle.flat_volume.proofs.Each.{coherent_all, all_coherent}
use Rattle.flat_volume.proofs.volume.FlatVolume.coherent.Goals as goal

abbrev IsEntryCoherent : ℕ × FlatSub → Type 0
IsEntryCoherent e = IsCoherent (sub_view e.1).sub

abbrev IsRunCoherent : RunVolume → Type 0
IsRunCoherent run = IsCoherentVolume (volume_of run)

pub returns-then-not-is_coherent : goal.returns-then-not-is_coherent
returns-then-not-is_coherent c =
    let es = c.deref-entry-items.result.now in
    let same : volume_view es ≡ c.args.self.now = ap volume_view c.deref-entry-items.ensures.value ∙ c.self.view_is in
    let rises : is_sorted nat_cmp es ≡ true = ap (is_sorted nat_cmp) c.deref-entry-items.ensures.value ∙ c.self.invariant.numbers_rise in (
      λ e. absurd (false≢true e),
      λ coherent. c.if-not-is_coherent.ensures.1 (subst IsEntryCoherent (sym c.entry-item.is) (all_coherent es rises (subst IsRunCoherent (sym same) coherent) c.loop-entry.entry-index c.entry-item.result c.loop-entry-test.true)),
    )

pub loop-entry-preserved : goal.loop-entry-preserved
loop-entry-preserved c =
    let es = c.deref-entry-items.result.now in
    let at = c.loop-entry.entry-index in
    let item : ℕ × FlatSub = c.entry-item.result in
    subst (All IsEntryCoherent) (sym (take_more es at item c.loop-entry-test.true))
    (All-push IsEntryCoherent (take at es) (get_or es at item) c.loop-entry.invariant (subst IsEntryCoherent c.entry-item.is (c.if-not-is_coherent.ensures.0 refl)))

pub returns : goal.returns
returns c =
    let es = c.deref-entry-items.result.now in
    let same : volume_view es ≡ c.args.self.now = ap volume_view c.deref-entry-items.ensures.value ∙ c.self.view_is in
    let end : c.loop-entry.entry-index ≡ length es = omega arith in (
      λ _. subst IsRunCoherent same (coherent_all es (subst (All IsEntryCoherent) (ap (λ n. take n es) end ∙ take-length es) c.loop-entry.invariant)),
      λ _. refl,
    )
