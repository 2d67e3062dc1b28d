-- A list with one element more in it, of which some functions tell nothing.
use Rattle.std.proofs.Common.{◌≡◌, ◌⊎◌, Bool, false, cond, List, [], ◌∷◌, ◌++◌, Contains, Option, Some, None, filter, find, flat_map, refl, ap, subst, ◌∙◌, inl, inr}
use Rattle.std.specs.Prelude.{All}
use Rattle.std.proofs.lemmas.Bool.{cases_Bool, false_from_ne_true}
use Rattle.std.proofs.lemmas.List.Elements.{All-cons, All-contains, All-nil, Contains-append_cases, Contains-append_left, Contains-append_right}
use Rattle.blk_base.specs.declared.key.Key.{Key}
use Rattle.blk_base.specs.Keys.{KeyBelow, key_below, key_cmp}
use Rattle.blk_base.specs.Leaf.{Item}
use Rattle.blk_base.specs.Trees.{ItemsRise}
use Rattle.std.specs.Ordering.{is_eq, is_lt}
use Rattle.std.specs.declared.cmp.Ordering.{Ordering}
use Rattle.std.specs.declared.cmp.Ordering.TheVariants.{Less, Equal, Greater}
use Rattle.leaf_view.specs.KeyOrder.{KeyBelow_irrefl, KeyBelow_swap, KeyBelow_trans}
use Rattle.leaf_view.proofs.Rising.{key_below_means}
use Rattle.cow_tree.proofs.Items.{lower, lower_none, upper, upper_all}
use Rattle.tree_range.specs.Between.{AreAbove, data_under, has_key}
use Rattle.tree_range.proofs.Rise.{rise_head, rise_tail}
use Rattle.volume_image.proofs.Lists.{in_cons}
use Rattle.volume_image.proofs.Reaches.{head_in, tail_in}

pub all_from : {X : Type 0} {P : X → Type 0} (xs : List X) → ((x : X) → Contains xs x → P x) → All P xs
all_from {P = P} [] each = All-nil P
all_from {P = P} (x ∷ xs) each = All-cons P x xs (each x (head_in x xs)) (all_from xs (λ y c. each y (tail_in x y xs c)))

-- ---- one element more

module _ {X : Type 0} (new : X) where
  pub flat_same : {Y : Type 0} (f : X → List Y) (front rest : List X) → f new ≡ [] → flat_map f (front ++ new ∷ rest) ≡ flat_map f (front ++ rest)
  flat_same {Y} f [] rest none = ap (λ (ys : List Y). ys ++ flat_map f rest) none
  flat_same {Y} f (x ∷ xs) rest none = ap (λ (ys : List Y). f x ++ ys) (flat_same f xs rest none)

  pub filter_same : (p : X → Bool) (front rest : List X) → p new ≡ false → filter p (front ++ new ∷ rest) ≡ filter p (front ++ rest)
  filter_same p [] rest none = ap (λ (b : Bool). cond b (new ∷ filter p rest) (filter p rest)) none
  filter_same p (x ∷ xs) rest none = ap (λ (ys : List X). cond (p x) (x ∷ ys) ys) (filter_same p xs rest none)

  pub find_same : (p : X → Bool) (front rest : List X) → p new ≡ false → find p (front ++ new ∷ rest) ≡ find p (front ++ rest)
  find_same p [] rest none = ap (λ (b : Bool). cond b (Some new) (find p rest)) none
  find_same p (x ∷ xs) rest none = ap (λ (found : Option X). cond (p x) (Some x) found) (find_same p xs rest none)

  pub in_middle : (front rest : List X) (x : X) → Contains (front ++ new ∷ rest) x → (new ≡ x) ⊎ Contains (front ++ rest) x
  in_middle front rest x c = elim (Contains-append_cases front (new ∷ rest) x c) [
    | inl early ↦ inr (Contains-append_left front rest x early)
    | inr late ↦ elim (in_cons new x rest late) [
      | inl same ↦ inl same
      | inr behind ↦ inr (Contains-append_right front rest x behind)
    ]
  ]

  pub middle_has : (front rest : List X) → Contains (front ++ new ∷ rest) new
  middle_has front rest = Contains-append_right front (new ∷ rest) new (head_in new rest)

  pub middle_keeps : (front rest : List X) (x : X) → Contains (front ++ rest) x → Contains (front ++ new ∷ rest) x
  middle_keeps front rest x c = elim (Contains-append_cases front rest x c) [
    | inl early ↦ Contains-append_left front (new ∷ rest) x early
    | inr late ↦ Contains-append_right front (new ∷ rest) x (tail_in new x rest late)
  ]

-- ---- rising items without a key

greater : (o : Ordering) → is_lt o ≡ false → is_eq o ≡ false → o ≡ Greater
greater Less h k = absurd cc
greater Equal h k = absurd cc
greater Greater h k = refl

above_all : (key : Key) (x : Item) (xs : List Item) → ItemsRise (x ∷ xs) → KeyBelow key x.0 → AreAbove key (x ∷ xs)
above_all key x xs rise below = all_from {P = λ (item : Item). KeyBelow key item.0} (x ∷ xs) (λ item c. elim (in_cons x item xs c) [
  | inl same ↦ subst (λ (y : Item). KeyBelow key y.0) same below
  | inr later ↦ KeyBelow_trans key x.0 item.0 below (All-contains (λ (y : Item). KeyBelow x.0 y.0) xs item (rise_head x xs rise) later)
])

-- what is below a key and what is above it are all items, where none has it
pub both_sides : (key : Key) (items : List Item) → ItemsRise items → data_under key items ≡ None → lower key items ++ upper key items ≡ items
both_sides key [] rise none = refl
both_sides key (x ∷ xs) rise none = elim (cases_Bool (has_key key x)) [
  | inl same ↦ let wrong = rw same at none in absurd cc
  | inr other ↦ elim (cases_Bool (key_below x.0 key)) [
    | inl low ↦
        let not_high : key_below key x.0 ≡ false = false_from_ne_true (key_below key x.0) (λ high. KeyBelow_irrefl key (KeyBelow_trans key x.0 key (key_below_means key x.0 high) (key_below_means x.0 key low))) in
        rw (low, not_high) (ap (λ (l : List Item). x ∷ l) (both_sides key xs (rise_tail x xs rise) (rw other at none)))
    | inr not_low ↦
        let above = above_all key x xs rise (KeyBelow_swap x.0 key (greater (key_cmp x.0 key) not_low other)) in
        ap (λ (l : List Item). l ++ upper key (x ∷ xs)) (lower_none key (x ∷ xs) above) ∙ upper_all key (x ∷ xs) above
  ]
]
