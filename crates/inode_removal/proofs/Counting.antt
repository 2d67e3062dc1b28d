-- A list in which no number stands twice has at most as many as another has different ones, where each of its numbers is in that.
use Rattle.std.proofs.Common.{◌≡◌, ◌≤◌, ◌+◌, ℕ, Bool, true, false, cond, not, List, [], ◌∷◌, ◌||◌, Contains, filter, length, nat_eq, sym, ap, subst, ◌∙◌, arith, inl, inr}
use Rattle.std.specs.List.{list_any}
use Rattle.std.proofs.lemmas.Bool.{cases_Bool, eq-eqb, eqb-true, ne_eqb, true≢false}
use Rattle.std.proofs.lemmas.List.Elements.{All-contains_itself, All-weaker}
use Rattle.blk_base.specs.Trees.{NoneTwice}
use Rattle.flat_model.specs.Needs.{count_different}
use Rattle.tree_range.proofs.Under.{filter_all}
use Rattle.volume_image.proofs.Lists.{in_cons, in_nothing}
use Rattle.volume_image.proofs.Members.{in_filter}
use Rattle.volume_image.proofs.Reaches.{head_in, tail_in}

-- an element that passes the test
pub passes : {X : Type 0} (p : X → Bool) (xs : List X) → list_any p xs ≡ true → (x : X) × Contains xs x × (p x ≡ true)
passes p [] is = absurd (true≢false (sym is))
passes p (x ∷ xs) is = elim (cases_Bool (p x)) [
  | inl here ↦ (x, head_in x xs, here)
  | inr out ↦ let found = passes p xs (sym (ap (λ (b : Bool). b || list_any p xs) out) ∙ is) in (found.0, tail_in x found.0 xs found.1, found.2)
]

among : (n : ℕ) (ns : List ℕ) → list_any (nat_eq n) ns ≡ true → Contains ns n
among n ns is =
    let found = passes (nat_eq n) ns is in
    subst (λ (m : ℕ). Contains ns m) (sym (eqb-true n found.0 found.2)) found.1

-- the list without a number
others : ℕ → List ℕ → List ℕ
others n xs = filter (λ x. not (nat_eq n x)) xs

once_filter : (p : ℕ → Bool) (xs : List ℕ) → NoneTwice xs → NoneTwice (filter p xs)
once_filter p [] once = tt
once_filter p (x ∷ xs) once = elim (cases_Bool (p x)) [
  | inl kept ↦ rw kept ((λ c. once.0 (in_filter p xs x c).0), once_filter p xs once.1)
  | inr gone ↦ rw gone (once_filter p xs once.1)
]

one_less : (n : ℕ) (xs : List ℕ) → NoneTwice xs → length xs ≤ 1 + length (others n xs)
unfolding others
one_less n [] once = omega arith
one_less n (x ∷ xs) once = elim (cases_Bool (nat_eq n x)) [
  | inl same ↦
      let is = eqb-true n x same in
      let rest : others n xs ≡ xs = filter_all (λ y. not (nat_eq n y)) xs (All-weaker (Contains xs) (λ (y : ℕ). not (nat_eq n y) ≡ true) (λ y c. ap not (ne_eqb n y (λ e. once.0 (subst (λ (m : ℕ). Contains xs m) (sym e ∙ is) c)))) xs (All-contains_itself xs)) in
      let long = ap length rest in
      rw same (omega arith)
  | inr other ↦ let rest = one_less n xs once.1 in rw other (omega arith)
]

pub few_different : (within xs : List ℕ) → NoneTwice xs → ((x : ℕ) → Contains xs x → Contains within x) → length xs ≤ count_different within
unfolding others
few_different [] [] once all = omega arith
few_different [] (x ∷ xs) once all = absurd (in_nothing x (all x (head_in x xs)))
few_different (n ∷ ns) xs once all = elim (cases_Bool (list_any (nat_eq n) ns)) [
  | inl there ↦ rw there (few_different ns xs once (λ x c. elim (in_cons n x ns (all x c)) [
    | inl same ↦ subst (λ (m : ℕ). Contains ns m) same (among n ns there)
    | inr later ↦ later
  ]))
  | inr new ↦
      let rest = few_different ns (others n xs) (once_filter (λ x. not (nat_eq n x)) xs once) (λ x c.
      let kept = in_filter (λ y. not (nat_eq n y)) xs x c in
      elim (in_cons n x ns (all x kept.0)) [
        | inl same ↦ absurd (true≢false (sym kept.1 ∙ ap not (eq-eqb n x same)))
        | inr later ↦ later
      ]) in
      let less = one_less n xs once in
      rw new (omega arith)
]

pub different_most : (xs : List ℕ) → count_different xs ≤ length xs
different_most [] = omega arith
different_most (x ∷ xs) =
    let rest = different_most xs in
    elim (list_any (nat_eq x) xs) as (λ b. cond b (count_different xs) (1 + count_different xs) ≤ length (x ∷ xs)) [ true ↦ omega arith | false ↦ omega arith ]
