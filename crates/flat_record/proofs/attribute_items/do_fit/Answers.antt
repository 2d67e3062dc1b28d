use Rattle.std.proofs.Common.{◌≡◌, ℕ, List, ◌≤◌, None, inl, inr, length, get_or, ap, sym, subst, ◌∙◌, refl, arith}
use Rattle.std.specs.List.{sum_by}
use Rattle.std.proofs.lemmas.Bool.{cases_eq}
use Rattle.std.proofs.lemmas.List.{get_or_default}
use Rattle.blk_base.specs.Crc.{name_hash_of}
use Rattle.flat_record.specs.AttributeShares.{share_of}
use Rattle.flat_record.proofs.Limits.{all_fit}
use Rattle.flat_record.proofs.attribute_items.do_fit.Goals as goal

pub loop-entry-preserved : goal.loop-entry-preserved
loop-entry-preserved c = λ k d low.
    let es = c.args.entries.now.items in
    let i = c.loop-entry.entry-index in
    let e = c.entry-item.result in
    let here = c.entry-item.is ∙ ap (λ (l : List (List ℕ × List ℕ)). get_or l i e) c.deref-entry-items.ensures.value ∙ get_or_default es i e d (omega (arith, c.loop-entry-test.true, ap length c.deref-entry-items.ensures.value)) in
    let hash : c.name_hash.result ≡ name_hash_of (get_or es i d).0 = c.name_hash.ensures ∙ ap name_hash_of (c.as_bytes.ensures.value ∙ ap (λ (x : List ℕ × List ℕ). x.0) here) in
    let fits = c.fits.ensures.0 c.if-not-fits.false in
    let bound : sum_by (share_of c.name_hash.result None) es ≤ 3970 = omega (arith, fits, c.item_bytes-bytes.ensures) in
    elim (cases_eq k i) [
      | inl same ↦ subst (λ n. sum_by (share_of (name_hash_of (get_or es n d).0) None) es ≤ 3970) (sym same) (subst (λ h. sum_by (share_of h None) es ≤ 3970) hash bound)
      | inr other ↦ c.loop-entry.invariant k d (omega (arith, low, other))
    ]

pub returns : goal.returns
returns c =
    let es = c.args.entries.now.items in
    (λ _. all_fit es (λ k d low. c.loop-entry.invariant k d (omega (arith, low, c.loop-entry-test.false, ap length c.deref-entry-items.ensures.value))), λ _. refl)
