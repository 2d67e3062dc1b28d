-- How many items a list has after one of them was put in or taken out, and the items of a range.
use Rattle.std.proofs.Common.{◌≡◌, ◌+◌, ◌∙◌, ◌⊎◌, ◌||◌, Bool, true, false, ℕ, List, [], ◌∷◌, ◌++◌, length, Some, None, IsSome, inl, inr, refl, sym, ap, subst, arith}
use Rattle.std.specs.Prelude.{filter}
use Rattle.std.specs.Ordering.{is_eq, is_lt}
use Rattle.std.specs.declared.cmp.Ordering.{Ordering}
use Rattle.std.specs.declared.cmp.Ordering.TheVariants.{Less, Equal, Greater}
use Rattle.std.proofs.lemmas.Bool.{cases_Bool, false_from_ne_true}
use Rattle.std.proofs.lemmas.List.{length-append}
use Rattle.std.proofs.lemmas.List.Elements.{filter-append}
use Rattle.blk_base.specs.declared.key.Key.{Key}
use Rattle.blk_base.specs.Keys.{key_below, key_cmp}
use Rattle.blk_base.specs.Leaf.{Item}
use Rattle.blk_base.specs.Trees.{ItemsRise, first_key}
use Rattle.leaf_view.specs.KeyOrder.{KeyBelow_irrefl, KeyBelow_swap, KeyBelow_trans}
use Rattle.leaf_view.proofs.Rising.{key_below_from, key_below_means}
use Rattle.tree_range.specs.Between.{data_under, has_key, items_between}
use Rattle.tree_range.proofs.Under.{has_key_means, under_here}
use Rattle.tree_frame.specs.Frame.{with_item, without_item}
use Rattle.tree_delete.proofs.Items.{without_here}
use Rattle.tree_delete_range.specs.Outside.{items_outside}

-- ---- an item that is put in or taken out

greater : (o : Ordering) → is_lt o ≡ false → is_eq o ≡ false → o ≡ Greater
greater Less h k = absurd cc
greater Equal h k = absurd cc
greater Greater h k = refl

-- another key is below the key or above it, and not both
record IsLower (key : Key) (item : Item) : Type 0 where
  pub low : key_below item.0 key ≡ true
  pub not_high : key_below key item.0 ≡ false

record IsUpper (key : Key) (item : Item) : Type 0 where
  pub not_low : key_below item.0 key ≡ false
  pub high : key_below key item.0 ≡ true

one_side : (key : Key) (item : Item) → has_key key item ≡ false → IsLower key item ⊎ IsUpper key item
one_side key item other = elim (cases_Bool (key_below item.0 key)) [
  | inl low ↦ inl (record { low = low; not_high = false_from_ne_true (key_below key item.0) (λ high. KeyBelow_irrefl key (KeyBelow_trans key item.0 key (key_below_means key item.0 high) (key_below_means item.0 key low))) })
  | inr not_low ↦ inr (record { not_low = not_low; high = key_below_from key item.0 (KeyBelow_swap item.0 key (greater (key_cmp item.0 key) not_low other)) })
]

abbrev lower : Key → List Item → List Item
lower key items = filter (λ (item : Item). key_below item.0 key) items

abbrev upper : Key → List Item → List Item
upper key items = filter (λ (item : Item). key_below key item.0) items

two_sides : (key : Key) (items : List Item) → data_under key items ≡ None → length (lower key items) + length (upper key items) ≡ length items
two_sides key [] h = refl
two_sides key (x ∷ xs) h = elim (cases_Bool (has_key key x)) [
  | inl same ↦ let wrong = rw same at h in absurd cc
  | inr other ↦
      let rest : length (lower key xs) + length (upper key xs) ≡ length xs = two_sides key xs (rw other at h) in
      elim (one_side key x other) [
        | inl s ↦ rw (s.low, s.not_high) (omega (arith, rest))
        | inr s ↦ rw (s.not_low, s.high) (omega (arith, rest))
      ]
]

pub put_count : (key : Key) (bytes : List ℕ) (items : List Item) → data_under key items ≡ None → length (with_item key bytes items) ≡ length items + 1
put_count key bytes items h =
    omega (arith, two_sides key items h, length-append (lower key items) ((key, bytes) ∷ upper key items))

-- the list around the item under a key
record IsUnder (key : Key) (items : List Item) : Type 0 where
  pub front : List Item
  pub item : Item
  pub rest : List Item
  pub split : items ≡ front ++ item ∷ rest
  pub key_is : item.0 ≡ key

cut_under : (key : Key) (items : List Item) → IsSome (data_under key items) → IsUnder key items
cut_under key [] some = absurd cc
cut_under key (x ∷ xs) some = elim (cases_Bool (has_key key x)) [
  | inl same ↦ record { front = []; item = x; rest = xs; split = refl; key_is = has_key_means key x same }
  | inr other ↦
      let cut = cut_under key xs (rw other at some) in
      record { front = x ∷ cut.front; item = cut.item; rest = cut.rest; split = ap (λ (l : List Item). x ∷ l) cut.split; key_is = cut.key_is }
]

pub delete_count : (key : Key) (items : List Item) → ItemsRise items → IsSome (data_under key items) → length (without_item key items) + 1 ≡ length items
delete_count key items rise some =
    let cut = cut_under key items some in
    let left : without_item cut.item.0 (cut.front ++ cut.item ∷ cut.rest) ≡ cut.front ++ cut.rest = without_here cut.front cut.item cut.rest (subst ItemsRise cut.split rise) in
    let keyed : without_item key (cut.front ++ cut.item ∷ cut.rest) ≡ cut.front ++ cut.rest = subst (λ (k : Key). without_item k (cut.front ++ cut.item ∷ cut.rest) ≡ cut.front ++ cut.rest) cut.key_is left in
    let long = ap (λ (l : List Item). length (without_item key l)) cut.split in
    omega (arith, long, ap (λ (l : List Item). length l) keyed, ap (λ (l : List Item). length l) cut.split, length-append cut.front cut.rest, length-append cut.front (cut.item ∷ cut.rest))

pub replace_count : (key : Key) (bytes : List ℕ) (items : List Item) → ItemsRise items → IsSome (data_under key items) → length (with_item key bytes items) ≡ length items
replace_count key bytes items rise some =
    omega (arith, delete_count key items rise some, length-append (lower key items) ((key, bytes) ∷ upper key items), length-append (lower key items) (upper key items))

-- ---- the items of a range

-- each item is in the range or outside of it
pub between_or_outside : (first last : Key) (items : List Item) → length (items_outside first last items) + length (items_between first last items) ≡ length items
between_or_outside first last [] = refl
between_or_outside first last (x ∷ xs) =
    let rest = between_or_outside first last xs in
    elim (cases_Bool (key_below x.0 first)) [
      | inl before ↦ rw before (omega (arith, rest))
      | inr from ↦ elim (cases_Bool (key_below last x.0)) [
        | inl above ↦ rw (from, above) (omega (arith, rest))
        | inr up_to ↦ rw (from, up_to) (omega (arith, rest))
      ]
    ]

-- where there is no first one, there is none
pub none_between : (first last : Key) (items : List Item) → first_key (items_between first last items) ≡ None → items_outside first last items ≡ items
none_between first last [] h = refl
none_between first last (x ∷ xs) h = elim (cases_Bool (key_below x.0 first)) [
  | inl before ↦ rw before (ap (λ (l : List Item). x ∷ l) (none_between first last xs (rw before at h)))
  | inr from ↦ elim (cases_Bool (key_below last x.0)) [
    | inl above ↦ rw (from, above) (ap (λ (l : List Item). x ∷ l) (none_between first last xs (rw (from, above) at h)))
    | inr up_to ↦ let here = rw (from, up_to) at h in absurd cc
  ]
]

-- the list around the first item of the range
record IsFirst (first last : Key) (items : List Item) (key : Key) : Type 0 where
  pub front : List Item
  pub item : Item
  pub rest : List Item
  pub split : items ≡ front ++ item ∷ rest
  pub key_is : item.0 ≡ key
  pub from : key_below item.0 first ≡ false
  pub up_to : key_below last item.0 ≡ false

behind : (first last : Key) (x : Item) (xs : List Item) (key : Key) → IsFirst first last xs key → IsFirst first last (x ∷ xs) key
behind first last x xs key cut = record { front = x ∷ cut.front; item = cut.item; rest = cut.rest; split = ap (λ (l : List Item). x ∷ l) cut.split; key_is = cut.key_is; from = cut.from; up_to = cut.up_to }

cut_first : (first last : Key) (items : List Item) (key : Key) → first_key (items_between first last items) ≡ Some key → IsFirst first last items key
cut_first first last [] key h = absurd cc
cut_first first last (x ∷ xs) key h = elim (cases_Bool (key_below x.0 first)) [
  | inl before ↦ behind first last x xs key (cut_first first last xs key (rw before at h))
  | inr from ↦ elim (cases_Bool (key_below last x.0)) [
    | inl above ↦ behind first last x xs key (cut_first first last xs key (rw (from, above) at h))
    | inr up_to ↦ let here = rw (from, up_to) at h in record { front = []; item = x; rest = xs; split = refl; key_is = cc; from = from; up_to = up_to }
  ]
]

under_some : (front : List Item) (item : Item) (rest : List Item) → IsSome (data_under item.0 (front ++ item ∷ rest))
under_some [] item rest = rw (under_here item rest) refl
under_some (x ∷ xs) item rest = elim (cases_Bool (has_key item.0 x)) [
  | inl same ↦ rw same refl
  | inr other ↦ rw other (under_some xs item rest)
]

pub first_is_there : (first last : Key) (items : List Item) (key : Key) → first_key (items_between first last items) ≡ Some key → IsSome (data_under key items)
first_is_there first last items key h =
    let cut = cut_first first last items key h in
    let keyed = subst (λ (k : Key). IsSome (data_under k (cut.front ++ cut.item ∷ cut.rest))) cut.key_is (under_some cut.front cut.item cut.rest) in
    subst (λ (l : List Item). IsSome (data_under key l)) (sym cut.split) keyed

-- without it, the items outside of the range stay
pub first_goes : (first last : Key) (items : List Item) (key : Key) → ItemsRise items → first_key (items_between first last items) ≡ Some key → items_outside first last (without_item key items) ≡ items_outside first last items
first_goes first last items key rise h =
    let cut = cut_first first last items key h in
    let p : Item → Bool = λ (item : Item). key_below item.0 first || key_below last item.0 in
    let none : items_outside first last (cut.item ∷ cut.rest) ≡ items_outside first last cut.rest = rw (cut.from, cut.up_to) refl in
    let left : without_item cut.item.0 (cut.front ++ cut.item ∷ cut.rest) ≡ cut.front ++ cut.rest = without_here cut.front cut.item cut.rest (subst ItemsRise cut.split rise) in
    let keyed : without_item key (cut.front ++ cut.item ∷ cut.rest) ≡ cut.front ++ cut.rest = subst (λ (k : Key). without_item k (cut.front ++ cut.item ∷ cut.rest) ≡ cut.front ++ cut.rest) cut.key_is left in
    let same : items_outside first last (cut.front ++ cut.rest) ≡ items_outside first last (cut.front ++ cut.item ∷ cut.rest) = filter-append p cut.front cut.rest ∙ ap (λ (l : List Item). filter p cut.front ++ l) (sym none) ∙ sym (filter-append p cut.front (cut.item ∷ cut.rest)) in
    ap (λ (l : List Item). items_outside first last (without_item key l)) cut.split ∙ ap (items_outside first last) keyed ∙ same ∙ ap (items_outside first last) (sym cut.split)
