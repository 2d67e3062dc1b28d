-- Entries gone over one behind the other: those that were seen, and those that are left, one of which is wanted.
use Rattle.std.proofs.Common.{◌≡◌, ◌∙◌, ◌+◌, ◌≤◌, ℕ, List, [], ◌∷◌, ◌++◌, length, refl, sym, ap, subst, inl, inr, arith, append_assoc, length-append}
use Rattle.std.specs.Prelude.{Contains}
use Rattle.std.specs.List.{flat_map}
use Rattle.std.proofs.lemmas.Grind.{flat_map-append}
use Rattle.std.proofs.lemmas.List.{append-nil}
use Rattle.volume_image.proofs.Lists.{in_cons, in_nothing}
use Rattle.name_items.specs.Places.{HasPlace}

-- those that are left, from a byte on
pub record IsLeft {E : Type 0} (spell : E → List ℕ) (Wanted : E → Type 0) (whole rest : List E) (at : ℕ) : Type 0 where
  pub seen : List E
  pub parts : whole ≡ seen ++ rest
  pub at_is : at ≡ length (flat_map spell seen)
  pub some : (entry : E) × Contains rest entry × Wanted entry

module _ {E : Type 0} (spell : E → List ℕ) (Wanted : E → Type 0) where
  pub left_all : (whole : List E) → (entry : E) × Contains whole entry × Wanted entry → IsLeft spell Wanted whole whole 0
  left_all whole some = record { seen = []; parts = refl; at_is = refl; some = some }

  pub left_none : (whole : List E) (at : ℕ) → IsLeft spell Wanted whole [] at → ⊥
  left_none whole at h = in_nothing h.some.0 h.some.1

  pub left_room : (whole rest : List E) (entry : E) (at : ℕ) → IsLeft spell Wanted whole (entry ∷ rest) at → at + length (spell entry) ≤ length (flat_map spell whole)
  left_room whole rest entry at h =
      let whole_is : length (flat_map spell whole) ≡ length (flat_map spell h.seen) + (length (spell entry) + length (flat_map spell rest)) = ap (λ (l : List E). length (flat_map spell l)) h.parts ∙ ap length (flat_map-append spell h.seen (entry ∷ rest)) ∙ length-append (flat_map spell h.seen) (spell entry ++ flat_map spell rest) ∙ ap (λ (n : ℕ). length (flat_map spell h.seen) + n) (length-append (spell entry) (flat_map spell rest)) in
      omega (arith, whole_is, h.at_is)

  pub left_more : (whole rest : List E) (entry : E) (at end : ℕ) → IsLeft spell Wanted whole (entry ∷ rest) at → (Wanted entry → ⊥) → end ≡ at + length (spell entry) → IsLeft spell Wanted whole rest end
  left_more whole rest entry at end h other is = record {
    seen = h.seen ++ (entry ∷ []);
    parts = h.parts ∙ sym (append_assoc h.seen (entry ∷ []) rest);
    at_is = is ∙ ap (λ (n : ℕ). n + length (spell entry)) h.at_is ∙ sym (length-append (flat_map spell h.seen) (spell entry)) ∙ ap (λ (l : List ℕ). length (flat_map spell h.seen ++ l)) (sym (append-nil (spell entry))) ∙ ap length (sym (flat_map-append spell h.seen (entry ∷ [])));
    some = elim (in_cons entry h.some.0 rest h.some.1) [
      | inl same ↦ absurd (other (subst Wanted (sym same) h.some.2))
      | inr there ↦ (h.some.0, there, h.some.2)
    ];
  }

  pub left_here : (whole rest : List E) (entry : E) (at end : ℕ) → IsLeft spell Wanted whole (entry ∷ rest) at → Wanted entry → end ≡ at + length (spell entry) → HasPlace spell Wanted whole at end
  left_here whole rest entry at end h wanted is = record {
    entry = entry;
    wanted = wanted;
    placed = record { lefts = h.seen; rights = rest; parts = h.parts; from_is = h.at_is; to_is = is };
  }
