-- Callers in an order: there are at most 16, and what puts one behind others or leaves some out.
use Rattle.std.proofs.Common.{◌≡◌, ◌≢◌, ℕ, ◌<◌, ◌≤◌, Bool, true, false, List, [], ◌∷◌, ◌++◌, length, get_or, take, sym, ◌∙◌, inl, inr, arith, length-append, length-take}
use Rattle.std.specs.Bool.{nat_eq}
use Rattle.std.specs.List.{All, filter, list_any}
use Rattle.std.proofs.lemmas.Bool.{ne_eqb, true≢false}
use Rattle.std.proofs.lemmas.Bool.Decides.{Decides-eqb}
use Rattle.std.proofs.lemmas.List.{get_or-take, get_or_default}
use Rattle.std.proofs.lemmas.List.Elements.{All-contains, All-filter, All-from_get_or, All-push, recursion_from_All}
use Rattle.std.proofs.lemmas.List.Folds.{list_any_none}
use Rattle.std.proofs.lemmas.List.Quantifiers.{all_pairs_push}
use Rattle.std.proofs.lemmas.Map.Keys.{IsDistinct-cons}
use Rattle.std.proofs.lemmas.Map.Made.{IsDistinct-from_AllPairs}
use Rattle.std.proofs.lemmas.Map.Steps.{length-le_from_distinct_below}
use Rattle.flat_model.proofs.Lists.{contains_cases}
use Rattle.logged_volume.proofs.Members.{in_from, in_gives}
use Rattle.commit_callers.specs.Order.{AreCallers}

pub callers_few : (callers : List ℕ) → AreCallers callers → length callers ≤ 16
callers_few callers are =
    let apart = recursion_from_All (λ y. nat_eq 0 y ≡ false) callers (λ k d within. ne_eqb 0 (get_or callers k d) (λ same. let e = (are.each k d within).0 in absurd (omega (arith, e, same)))) in
    let distinct = IsDistinct-cons nat_eq 0 callers apart (IsDistinct-from_AllPairs Decides-eqb callers are.once) in
    let few = length-le_from_distinct_below (0 ∷ callers) 17 distinct below in
    omega (arith, few)
  where
    below : (q : ℕ) → list_any (nat_eq q) (0 ∷ callers) ≡ true → q < 17
    below q found = elim (contains_cases 0 callers q (in_gives (0 ∷ callers) q found)) [
      | inl zero ↦ omega (arith, zero)
      | inr more ↦ let e = All-contains (λ c. (1 ≤ c) × (c ≤ 16)) callers q are.each more in omega (arith, e.1)
    ]

pub callers_push : (callers : List ℕ) (caller : ℕ) → AreCallers callers → (1 ≤ caller) × (caller ≤ 16) → list_any (nat_eq caller) callers ≡ false → AreCallers (callers ++ caller ∷ [])
callers_push callers caller are range other = record {
  each = All-push (λ c. (1 ≤ c) × (c ≤ 16)) callers caller are.each range;
  once = all_pairs_push (λ one two. one ≢ two) callers caller are.once (λ k d within same. true≢false (sym (in_from callers caller (k, within, get_or_default callers k caller d within ∙ same)) ∙ other));
}

-- there is room for one more
pub callers_room : (callers : List ℕ) (caller : ℕ) → AreCallers callers → (1 ≤ caller) × (caller ≤ 16) → list_any (nat_eq caller) callers ≡ false → length callers < 16
callers_room callers caller are range other =
    let few = callers_few (callers ++ caller ∷ []) (callers_push callers caller are range other) in
    omega (arith, few, length-append {A = ℕ})

-- the same of the first so many places of an array
pub places_left : (callers : List ℕ) (count caller : ℕ) → length callers ≡ 16 → count ≤ 16 → AreCallers (take count callers) → (1 ≤ caller) × (caller ≤ 16)
    → list_any (nat_eq caller) (take count callers) ≡ false → count < 16
places_left callers count caller sixteen within are range other =
    let room = callers_room (take count callers) caller are range other in
    omega (arith, room, sixteen, within, length-take {A = ℕ})

-- a caller isn't among those before it
pub fresh_filtered : (passes : ℕ → Bool) (callers : List ℕ) (i d : ℕ) → AreCallers callers → i < length callers → list_any (nat_eq (get_or callers i d)) (filter passes (take i callers)) ≡ false
fresh_filtered passes callers i d are within =
    let Differs : ℕ → Type 0 = λ other. nat_eq (get_or callers i d) other ≡ false in
    let before : All Differs (take i callers) = All-from_get_or Differs (take i callers) d (λ k below.
    let earlier : k < i = omega (arith, below, length-take {A = ℕ}) in
    rw (get_or-take i callers k d earlier) (ne_eqb (get_or callers i d) (get_or callers k d) (λ same. are.once k i d earlier within (sym same)))) in
    list_any_none (nat_eq (get_or callers i d)) (filter passes (take i callers)) (All-filter passes Differs (take i callers) before)
