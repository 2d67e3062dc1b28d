-- Items without the one under a key.
use Rattle.std.proofs.Common.{◌≡◌, ℕ, suc, Bool, true, false, List, [], ◌∷◌, ◌++◌, length, take, drop, slice_get, refl, ap, ◌∙◌, sym, subst, Option, Some, None, IsSome, arith, inl, inr, append_assoc}
use Rattle.std.specs.Prelude.{All, filter, if◌then◌else◌, remove}
use Rattle.std.proofs.lemmas.Bool.{cases_Bool, false_from_ne_true}
use Rattle.std.proofs.lemmas.List.{append-nil, take-append-drop, take-map, drop-map}
use Rattle.std.proofs.lemmas.List.Elements.{All-nil, All-cons, All-head, All-tail, All-append, All-same, All-weaker, All-filter, filter-append, filter_passes}
use Rattle.blk_base.specs.declared.key.Key.{Key}
use Rattle.blk_base.specs.Keys.{KeyBelow, key_below}
use Rattle.blk_base.specs.Leaf.{Item}
use Rattle.blk_base.specs.Trees.{ItemsRise}
use Rattle.leaf_view.specs.KeyOrder.{KeyBelow_irrefl, KeyBelow_trans}
use Rattle.leaf_view.specs.Search.{IsPlace, keys_of}
use Rattle.leaf_view.proofs.Rising.{key_below_from, key_below_means}
use Rattle.tree_range.specs.Between.{AreAbove, AreBelow, data_under, has_key}
use Rattle.tree_range.proofs.Rise.{rise_before, rise_head, rise_right, rise_tail}
use Rattle.tree_range.proofs.Under.{filter_all, filter_none, has_key_means, none_above, none_below, not_below, under_none, under_past}
use Rattle.tree_frame.specs.Frame.{without_item}
use Rattle.tree_range.proofs.Cuts.{cut_at, mapped_at, All-unmap}

abbrev is_below : Key → Item → Bool
is_below key item = key_below item.0 key

abbrev is_above : Key → Item → Bool
is_above key item = key_below key item.0

below_all : (key : Key) (items : List Item) → AreBelow key items → filter (is_below key) items ≡ items
below_all key items h = filter_all (is_below key) items (All-weaker (λ (item : Item). KeyBelow item.0 key) (λ (item : Item). is_below key item ≡ true) (λ item k. key_below_from item.0 key k) items h)

below_none : (key : Key) (items : List Item) → AreAbove key items → filter (is_below key) items ≡ []
below_none key items h = filter_none (is_below key) items (not_below key items h)

not_above : (key other : Key) → KeyBelow other key → key_below key other ≡ false
not_above key other h = false_from_ne_true (key_below key other) (λ k. KeyBelow_irrefl key (KeyBelow_trans key other key (key_below_means key other k) h))

above_none : (key : Key) (items : List Item) → AreBelow key items → filter (is_above key) items ≡ []
above_none key items h = filter_none (is_above key) items (All-weaker (λ (item : Item). KeyBelow item.0 key) (λ (item : Item). is_above key item ≡ false) (λ item k. not_above key item.0 k) items h)

above_all : (key : Key) (items : List Item) → AreAbove key items → filter (is_above key) items ≡ items
above_all key items h = filter_all (is_above key) items (All-weaker (λ (item : Item). KeyBelow key item.0) (λ (item : Item). is_above key item ≡ true) (λ item k. key_below_from key item.0 k) items h)

three_parts : (p : Item → Bool) (xs ms ys : List Item) → filter p (xs ++ (ms ++ ys)) ≡ filter p xs ++ (filter p ms ++ filter p ys)
three_parts p xs ms ys = filter-append p xs (ms ++ ys) ∙ ap (λ (l : List Item). filter p xs ++ l) (filter-append p ms ys)

regroup : (xs a b ys : List Item) → (xs ++ (a ++ [])) ++ ([] ++ (b ++ ys)) ≡ xs ++ ((a ++ b) ++ ys)
regroup xs a b ys = simp (append_assoc, append-nil)

-- items in front of a key and behind it stay
pub without_between : (key : Key) (xs ms ys : List Item) → AreBelow key xs → AreAbove key ys → without_item key (xs ++ (ms ++ ys)) ≡ xs ++ (without_item key ms ++ ys)
without_between key xs ms ys below above =
    let p = is_below key in
    let q = is_above key in
    let front : filter p (xs ++ (ms ++ ys)) ≡ xs ++ (filter p ms ++ []) = three_parts p xs ms ys ∙ ap (λ (l : List Item). l ++ (filter p ms ++ filter p ys)) (below_all key xs below) ∙ ap (λ (l : List Item). xs ++ (filter p ms ++ l)) (below_none key ys above) in
    let back : filter q (xs ++ (ms ++ ys)) ≡ [] ++ (filter q ms ++ ys) = three_parts q xs ms ys ∙ ap (λ (l : List Item). l ++ (filter q ms ++ filter q ys)) (above_none key xs below) ∙ ap (λ (l : List Item). [] ++ (filter q ms ++ l)) (above_all key ys above) in
    ap (λ (l : List Item). l ++ filter q (xs ++ (ms ++ ys))) front ∙ ap (λ (l : List Item). (xs ++ (filter p ms ++ [])) ++ l) back ∙ regroup xs (filter p ms) (filter q ms) ys

not_itself : (key : Key) → key_below key key ≡ false
not_itself key = false_from_ne_true (key_below key key) (λ k. KeyBelow_irrefl key (key_below_means key key k))

without_one : (x : Item) → without_item x.0 (x ∷ []) ≡ []
without_one x = rw (not_itself x.0) refl

-- the item with the key goes
pub without_here : (xs : List Item) (x : Item) (ys : List Item) → ItemsRise (xs ++ x ∷ ys) → without_item x.0 (xs ++ x ∷ ys) ≡ xs ++ ys
without_here xs x ys rise =
    without_between x.0 xs (x ∷ []) ys (rise_before xs x ys rise) (rise_head x ys (rise_right xs (x ∷ ys) rise)) ∙ ap (λ (l : List Item). xs ++ (l ++ ys)) (without_one x)

abbrev item_key : Item → Key
item_key item = item.0

-- the same of a place where a search finds the key
pub without_at : (items : List Item) (key : Key) (place : ℕ) → ItemsRise items → slice_get (keys_of items) place ≡ Some key → remove items place ≡ without_item key items
without_at items key place rise h =
    let there = mapped_at item_key items place key h in
    let x = there.element in
    let cut = cut_at items place x there.at_place in
    let gone : without_item x.0 items ≡ take place items ++ drop (suc place) items = ap (without_item x.0) cut ∙ without_here (take place items) x (drop (suc place) items) (subst ItemsRise cut rise) in
    sym (subst (λ (k : Key). without_item k items ≡ take place items ++ drop (suc place) items) there.value_is gone)

-- ---- the item under a key among parts

under_front : (key : Key) (items rest : List Item) → All (λ (item : Item). has_key key item ≡ false) rest → data_under key (items ++ rest) ≡ data_under key items
under_front key [] rest h = under_none key rest h
under_front key (x ∷ xs) rest h = ap (λ (o : Option (List ℕ)). if has_key key x then Some x.1 else o) (under_front key xs rest h)

pub under_between : (key : Key) (xs ms ys : List Item) → AreBelow key xs → AreAbove key ys → data_under key (xs ++ (ms ++ ys)) ≡ data_under key ms
under_between key xs ms ys below above = under_past key xs (ms ++ ys) (none_below key xs below) ∙ under_front key ms ys (none_above key ys above)

none_some : (o : Option (List ℕ)) → o ≡ None → IsSome o → ⊥
none_some None h some = absurd cc
none_some (Some bytes) h some = absurd cc

-- no item has a key that belongs between two
none_here : (items : List Item) (key : Key) (place : ℕ) → IsPlace (keys_of items) key place → All (λ (item : Item). has_key key item ≡ false) items
none_here items key place h =
    let P : Item → Type 0 = λ (item : Item). has_key key item ≡ false in
    let below : AreBelow key (take place items) = All-unmap (λ (k : Key). KeyBelow k key) item_key (take place items) (subst (λ (l : List Key). All (λ (k : Key). KeyBelow k key) l) (take-map item_key place items) h.below) in
    let above : AreAbove key (drop place items) = All-unmap (λ (k : Key). KeyBelow key k) item_key (drop place items) (subst (λ (l : List Key). All (λ (k : Key). KeyBelow key k) l) (drop-map item_key place items) h.above) in
    All-same P items (take place items ++ drop place items) (sym (take-append-drop place items)) (All-append P (take place items) (drop place items) (none_below key (take place items) below) (none_above key (drop place items) above))

pub present_found : (items : List Item) (key : Key) (place : ℕ) → IsSome (data_under key items) → IsPlace (keys_of items) key place → ⊥
present_found items key place some h = none_some (data_under key items) (under_none key items (none_here items key place h)) some

-- the only item goes
pub without_only : (items : List Item) (key : Key) → length items ≡ 1 → IsSome (data_under key items) → without_item key items ≡ []
without_only [] key one some = absurd (omega (arith, one))
without_only (x ∷ []) key one some = elim (cases_Bool (has_key key x)) [
  | inl same ↦ subst (λ (k : Key). without_item k (x ∷ []) ≡ []) (has_key_means key x same) (without_one x)
  | inr other ↦ absurd (none_some (data_under key (x ∷ [])) (under_none key (x ∷ []) (All-cons (λ (item : Item). has_key key item ≡ false) x [] other (All-nil (λ (item : Item). has_key key item ≡ false)))) some)
]
without_only (x ∷ y ∷ ys) key one some = absurd (omega (arith, one))

-- ---- what is left rises

pub rise_cons : (x : Item) (xs : List Item) → AreAbove x.0 xs → ItemsRise xs → ItemsRise (x ∷ xs)
rise_cons x [] above rise = tt
rise_cons x (y ∷ ys) above rise = (All-head (λ (item : Item). KeyBelow x.0 item.0) y ys above, rise)

rise_filter : (p : Item → Bool) (items : List Item) → ItemsRise items → ItemsRise (filter p items)
rise_filter p [] rise = tt
rise_filter p (x ∷ xs) rise =
    let others = rise_filter p xs (rise_tail x xs rise) in
    let above = All-filter p (λ (item : Item). KeyBelow x.0 item.0) xs (rise_head x xs rise) in
    elim (cases_Bool (p x)) [
      | inl kept ↦ rw kept (rise_cons x (filter p xs) above others)
      | inr gone ↦ rw gone others
    ]

pub rise_join : (xs ys : List Item) → ItemsRise xs → ItemsRise ys → All (λ (x : Item). AreAbove x.0 ys) xs → ItemsRise (xs ++ ys)
rise_join [] ys one two h = two
rise_join (x ∷ xs) ys one two h =
    rise_cons x (xs ++ ys) (All-append (λ (item : Item). KeyBelow x.0 item.0) xs ys (rise_head x xs one) (All-head (λ (x' : Item). AreAbove x'.0 ys) x xs h)) (rise_join xs ys (rise_tail x xs one) two (All-tail (λ (x' : Item). AreAbove x'.0 ys) x xs h))

pub rise_without : (key : Key) (items : List Item) → ItemsRise items → ItemsRise (without_item key items)
rise_without key items rise =
    let p = is_below key in
    let q = is_above key in
    let above : AreAbove key (filter q items) = All-weaker (λ (item : Item). q item ≡ true) (λ (item : Item). KeyBelow key item.0) (λ item k. key_below_means key item.0 k) (filter q items) (filter_passes q items) in
    rise_join (filter p items) (filter q items) (rise_filter p items rise) (rise_filter q items rise)
    (All-weaker (λ (item : Item). p item ≡ true) (λ (item : Item). AreAbove item.0 (filter q items)) (λ item k. All-weaker (λ (other : Item). KeyBelow key other.0) (λ (other : Item). KeyBelow item.0 other.0) (λ other j. KeyBelow_trans item.0 key other.0 (key_below_means item.0 key k) j) (filter q items) above) (filter p items) (filter_passes p items))
