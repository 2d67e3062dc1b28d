-- The bytes of an item as entries one behind the other: with one entry more, and with one less.
use Rattle.std.proofs.Common.{◌≡◌, ◌≢◌, ◌∙◌, ◌+◌, ◌≤◌, ℕ, List, [], ◌∷◌, ◌++◌, length, take, drop, sym, ap, subst, arith, append_assoc, length-append}
use Rattle.std.specs.List.{AllByRecursion, flat_map}
use Rattle.std.proofs.lemmas.Grind.{flat_map-append}
use Rattle.std.proofs.lemmas.List.{append-nil}
use Rattle.std.proofs.Math.Seq.{drop-append_seam, take-append_seam}
use Rattle.name_items.specs.Places.{IsPlaced}

-- entries that are good, spelled one behind the other
pub record IsHeld {E : Type 0} (spell : E → List ℕ) (Good : E → Type 0) (bytes : List ℕ) (found : List E) : Type 0 where
  pub spelled : bytes ≡ flat_map spell found
  pub good : AllByRecursion Good found

module _ {E : Type 0} (Good : E → Type 0) where
  pub all_append : (xs ys : List E) → AllByRecursion Good xs → AllByRecursion Good ys → AllByRecursion Good (xs ++ ys)
  all_append [] ys a b = b
  all_append (x ∷ xs) ys a b = (a.0, all_append xs ys a.1 b)

  pub all_front : (xs ys : List E) → AllByRecursion Good (xs ++ ys) → AllByRecursion Good xs
  all_front [] ys h = tt
  all_front (x ∷ xs) ys h = (h.0, all_front xs ys h.1)

  pub all_back : (xs ys : List E) → AllByRecursion Good (xs ++ ys) → AllByRecursion Good ys
  all_back [] ys h = h
  all_back (x ∷ xs) ys h = all_back xs ys h.1

module _ {E : Type 0} (spell : E → List ℕ) (Good : E → Type 0) where
  pub held_more : (bytes : List ℕ) (found : List E) (entry : E) → IsHeld spell Good bytes found → Good entry → IsHeld spell Good (bytes ++ spell entry) (found ++ (entry ∷ []))
  held_more bytes found entry held good = record {
    spelled = ap (λ (l : List ℕ). l ++ spell entry) held.spelled ∙ ap (λ (l : List ℕ). flat_map spell found ++ l) (sym (append-nil (spell entry))) ∙ sym (flat_map-append spell found (entry ∷ []));
    good = all_append Good found (entry ∷ []) held.good (good, tt);
  }

  -- the bytes around an entry
  around : (bytes : List ℕ) (found : List E) (entry : E) (from to : ℕ) → bytes ≡ flat_map spell found → (at : IsPlaced spell found entry from to)
      → (take from bytes ≡ flat_map spell at.lefts) × (drop to bytes ≡ flat_map spell at.rights)
  around bytes found entry from to spelled at =
      let front : List ℕ = flat_map spell at.lefts in
      let back : List ℕ = flat_map spell at.rights in
      let whole : bytes ≡ front ++ (spell entry ++ back) = spelled ∙ ap (flat_map spell) at.parts ∙ flat_map-append spell at.lefts (entry ∷ at.rights) in
      let again : bytes ≡ (front ++ spell entry) ++ back = whole ∙ sym (append_assoc front (spell entry) back) in
      let size : to ≡ length (front ++ spell entry) = at.to_is ∙ ap (λ (n : ℕ). n + length (spell entry)) at.from_is ∙ sym (length-append front (spell entry)) in (
        ap (λ (n : ℕ). take n bytes) at.from_is ∙ ap (take (length front)) whole ∙ take-append_seam front (spell entry ++ back),
        ap (λ (n : ℕ). drop n bytes) size ∙ ap (drop (length (front ++ spell entry))) again ∙ drop-append_seam (front ++ spell entry) back,
      )

  pub held_less : (bytes : List ℕ) (found : List E) (entry : E) (from to : ℕ) → IsHeld spell Good bytes found → (at : IsPlaced spell found entry from to) → IsHeld spell Good (take from bytes ++ drop to bytes) (at.lefts ++ at.rights)
  held_less bytes found entry from to held at =
      let parts = around bytes found entry from to held.spelled at in
      let all : AllByRecursion Good (at.lefts ++ (entry ∷ at.rights)) = subst (AllByRecursion Good) at.parts held.good in
      record {
        spelled = ap (λ (l : List ℕ). l ++ drop to bytes) parts.0 ∙ ap (λ (l : List ℕ). flat_map spell at.lefts ++ l) parts.1 ∙ sym (flat_map-append spell at.lefts at.rights);
        good = all_append Good at.lefts at.rights (all_front Good at.lefts (entry ∷ at.rights) all) (all_back Good at.lefts (entry ∷ at.rights) all).1;
      }

  -- the place lies within the bytes
  pub placed_within : (bytes : List ℕ) (found : List E) (entry : E) (from to : ℕ) → bytes ≡ flat_map spell found → IsPlaced spell found entry from to → (from ≤ to) × (to ≤ length bytes)
  placed_within bytes found entry from to spelled at =
      let front : List ℕ = flat_map spell at.lefts in
      let back : List ℕ = flat_map spell at.rights in
      let whole : bytes ≡ front ++ (spell entry ++ back) = spelled ∙ ap (flat_map spell) at.parts ∙ flat_map-append spell at.lefts (entry ∷ at.rights) in
      let size : length bytes ≡ length front + (length (spell entry) + length back) = ap length whole ∙ length-append front (spell entry ++ back) ∙ ap (λ (n : ℕ). length front + n) (length-append (spell entry) back) in
      (omega (arith, at.to_is), omega (arith, at.to_is, at.from_is, size))

  -- entries that each have a byte have bytes where there is one
  pub held_some : (bytes : List ℕ) (entry : E) (found : List E) → IsHeld spell Good bytes (entry ∷ found) → 1 ≤ length (spell entry) → length bytes ≢ 0
  held_some bytes entry found held some none =
      let size : length bytes ≡ length (spell entry) + length (flat_map spell found) = ap length held.spelled ∙ length-append (spell entry) (flat_map spell found) in
      omega (arith, size, some, none)
