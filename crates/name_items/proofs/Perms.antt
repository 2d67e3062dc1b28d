-- Lists in another order, where elements can be told apart: one element in front of both may go.
use Rattle.std.proofs.Common.{◌≡◌, ◌≢◌, ◌⊎◌, ◌∙◌, ◌+◌, ◌≤◌, ℕ, suc, List, [], ◌∷◌, ◌++◌, refl, sym, ap, subst, inl, inr, arith}
use Rattle.std.specs.Prelude.{Contains, sum_by}
use Rattle.std.specs.List.Sorted.{IsPermutation}
use Rattle.std.proofs.lemmas.Bool.{cases_eq}
use Rattle.std.proofs.lemmas.List.Sums.{sum_by-append, sum_by-cons}
use Rattle.std.proofs.lemmas.List.Sorted.{IsPermutation-cons, IsPermutation-middle, IsPermutation-refl, IsPermutation-sym, IsPermutation-trans, sum_by-IsPermutation}
use Rattle.std.proofs.lemmas.Bool.{cases_Bool, false≢true}
use Rattle.std.proofs.lemmas.Slice.Eq.{bytes_eq-Decides}
use Rattle.std.specs.Str.{bytes_eq}
use Rattle.blk_base.specs.declared.key.Key.{Key}
use Rattle.blk_base.specs.Entries.{EntryValue, ExtRefValue, RefValue}
use Rattle.volume_image.proofs.Lists.{in_cons, in_nothing}

-- what stands in a list has a part before it and one behind
pub split_at : {X : Type 0} (xs : List X) (x : X) → Contains xs x → (front : List X) × (back : List X) × (xs ≡ front ++ (x ∷ back))
split_at [] x c = absurd (in_nothing x c)
split_at (y ∷ xs) x c = elim (in_cons y x xs c) [
  | inl here ↦ ([], xs, ap (λ z. z ∷ xs) here)
  | inr there ↦ let rest = split_at xs x there in (y ∷ rest.0, rest.1, ap (λ zs. y ∷ zs) rest.2)
]

-- any two are one or aren't
abbrev pub CanTell : Type 0 → Type 0
CanTell X = (x y : X) → (x ≡ y) ⊎ (x ≢ y)

weight : {A B : Type 0} → A ⊎ B → ℕ
weight (inl a) = 1
weight (inr b) = 0

module _ {X : Type 0} (tell : CanTell X) where
  one : X → X → ℕ
  one x y = weight (tell x y)

  one_same : (x : X) → one x x ≡ 1
  unfolding one weight
  one_same x = elim (tell x x) as (λ t. weight t ≡ 1) [ inl same ↦ refl | inr other ↦ absurd (other refl) ]

  one_there : (x y : X) → 1 ≤ one x y → x ≡ y
  unfolding one weight
  one_there x y = elim (tell x y) as (λ t. 1 ≤ weight t → x ≡ y) [ inl same ↦ λ h. same | inr other ↦ λ h. absurd (omega (arith, h)) ]

  counted_in : (x : X) (xs : List X) → 1 ≤ sum_by (one x) xs → Contains xs x
  counted_in x [] h = absurd (omega (arith, h))
  counted_in x (y ∷ ys) h = elim (cases_eq (one x y) 0) [
    | inl none ↦ let rest = counted_in x ys (omega (arith, h, none, sum_by-cons (one x) y ys)) in (suc rest.0, omega (arith, rest.1), rest.2)
    | inr some ↦ (0, omega arith, sym (one_there x y (omega (arith, some))))
  ]

  counted_middle : (x y : X) (front back : List X) → sum_by (one x) (front ++ (y ∷ back)) ≡ one x y + sum_by (one x) (front ++ back)
  counted_middle x y front back =
      omega (arith, sum_by-append (one x) front (y ∷ back), sum_by-append (one x) front back, sum_by-cons (one x) y back)

  from_counts : (xs ys : List X) → ((x : X) → sum_by (one x) xs ≡ sum_by (one x) ys) → IsPermutation xs ys
  from_counts [] [] h = IsPermutation-refl []
  from_counts [] (y ∷ ys) h = absurd (omega (arith, h y, sum_by-cons (one y) y ys, one_same y))
  from_counts (x ∷ xs) ys h =
      let there : Contains ys x = counted_in x ys (omega (arith, h x, sum_by-cons (one x) x xs, one_same x)) in
      let parts = split_at ys x there in
      let front = parts.0 in
      let back = parts.1 in
      let rest : IsPermutation xs (front ++ back) = from_counts xs (front ++ back) (λ z. omega (arith, h z, sum_by-cons (one z) x xs, counted_middle z x front back, ap (sum_by (one z)) parts.2)) in
      subst (IsPermutation (x ∷ xs)) (sym parts.2)
      (IsPermutation-trans (x ∷ xs) (x ∷ (front ++ back)) (front ++ (x ∷ back)) (IsPermutation-cons x xs (front ++ back) rest) (IsPermutation-sym (front ++ (x ∷ back)) (x ∷ (front ++ back)) (IsPermutation-middle front x back)))

  pub cancelled : (x : X) (xs ys : List X) → IsPermutation (x ∷ xs) (x ∷ ys) → IsPermutation xs ys
  cancelled x xs ys h =
      from_counts xs ys (λ z. omega (arith, sum_by-IsPermutation (one z) (x ∷ xs) (x ∷ ys) h, sum_by-cons (one z) x xs, sum_by-cons (one z) x ys))

-- ---- what can be told apart

tell_bytes : CanTell (List ℕ)
tell_bytes a b = elim (cases_Bool (bytes_eq a b)) [
  | inl same ↦ inl ((bytes_eq-Decides a b).0 same)
  | inr other ↦ inr (λ e. false≢true (sym other ∙ (bytes_eq-Decides a b).1 e))
]

tell_key : CanTell Key
tell_key a b = elim (cases_eq a.objectid b.objectid) [
  | inl one ↦ elim (cases_eq a.kind b.kind) [
    | inl two ↦ elim (cases_eq a.offset b.offset) [
      | inl three ↦ inl (λ i. record { objectid = one i; kind = two i; offset = three i })
      | inr n ↦ inr (λ e. n (ap (λ (k : Key). k.offset) e))
    ]
    | inr n ↦ inr (λ e. n (ap (λ (k : Key). k.kind) e))
  ]
  | inr n ↦ inr (λ e. n (ap (λ (k : Key). k.objectid) e))
]

pub tell_ref : CanTell RefValue
tell_ref a b = elim (cases_eq a.index b.index) [
  | inl one ↦ elim (tell_bytes a.name b.name) [
    | inl two ↦ inl (λ i. record { index = one i; name = two i })
    | inr n ↦ inr (λ e. n (ap (λ (r : RefValue). r.name) e))
  ]
  | inr n ↦ inr (λ e. n (ap (λ (r : RefValue). r.index) e))
]

pub tell_extref : CanTell ExtRefValue
tell_extref a b = elim (cases_eq a.parent b.parent) [
  | inl zero ↦ elim (cases_eq a.index b.index) [
    | inl one ↦ elim (tell_bytes a.name b.name) [
      | inl two ↦ inl (λ i. record { parent = zero i; index = one i; name = two i })
      | inr n ↦ inr (λ e. n (ap (λ (r : ExtRefValue). r.name) e))
    ]
    | inr n ↦ inr (λ e. n (ap (λ (r : ExtRefValue). r.index) e))
  ]
  | inr n ↦ inr (λ e. n (ap (λ (r : ExtRefValue). r.parent) e))
]

pub tell_entry : CanTell EntryValue
tell_entry a b = elim (tell_key a.target b.target) [
  | inl t ↦ elim (cases_eq a.transid b.transid) [
    | inl g ↦ elim (cases_eq a.kind b.kind) [
      | inl k ↦ elim (tell_bytes a.name b.name) [
        | inl n ↦ elim (tell_bytes a.value b.value) [
          | inl v ↦ inl (λ i. record { target = t i; transid = g i; kind = k i; name = n i; value = v i })
          | inr x ↦ inr (λ e. x (ap (λ (r : EntryValue). r.value) e))
        ]
        | inr x ↦ inr (λ e. x (ap (λ (r : EntryValue). r.name) e))
      ]
      | inr x ↦ inr (λ e. x (ap (λ (r : EntryValue). r.kind) e))
    ]
    | inr x ↦ inr (λ e. x (ap (λ (r : EntryValue). r.transid) e))
  ]
  | inr x ↦ inr (λ e. x (ap (λ (r : EntryValue). r.target) e))
]
