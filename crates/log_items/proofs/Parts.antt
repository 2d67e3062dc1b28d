-- The items of one type of an inode, replaced by others: which there are then, and which stay.
use Rattle.std.proofs.Common.{◌≡◌, ◌≤◌, ◌<◌, ◌&&◌, ◌∙◌, ◌⊎◌, ◌++◌, ℕ, Bool, true, false, not, cond, List, [], ◌∷◌, Contains, Option, Some, None, filter, find, flat_map, refl, sym, ap, ap₂, subst, inl, inr, arith}
use Rattle.std.proofs.lemmas.Bool.{false_from_ne_true, true≢false}
use Rattle.std.proofs.lemmas.List.Elements.{filter-append}
use Rattle.blk_base.specs.declared.key.Key.{Key}
use Rattle.blk_base.specs.Keys.{KeyFits, key_below}
use Rattle.blk_base.specs.Leaf.{Item}
use Rattle.blk_base.specs.Trees.{ItemsRise}
use Rattle.cow_tree.proofs.Items.{lower, upper}
use Rattle.flat_model.proofs.Lists.{filter_empties, filter_keeps, filter_swaps}
use Rattle.leaf_view.specs.KeyOrder.{KeyBelow_parts}
use Rattle.leaf_view.proofs.Rising.{key_below_means}
use Rattle.log_image.specs.LogItems.{is_at}
use Rattle.log_image.proofs.OneLog.{at_from, at_gives}
use Rattle.log_items.specs.Copied.{with_range}
use Rattle.log_items.specs.Inode.{first_at, items_at, last_at, with_items_at}
use Rattle.log_items.proofs.Copying.{below_itself, between, not_below_means, not_true, three_parts}
use Rattle.log_items.proofs.Renamed.{filter_past}
use Rattle.log_items.proofs.Writings.{at_in_order}
use Rattle.tree_check.specs.Items.{HaveKeys}
use Rattle.tree_frame.specs.Frame.{with_item}
use Rattle.tree_range.specs.Between.{items_from}
use Rattle.volume_image.specs.Subvolume.{make_key}
use Rattle.volume_image.proofs.Lists.{in_cons, in_nothing}
use Rattle.volume_image.proofs.Members.{in_filter}
use Rattle.volume_image.proofs.Reaches.{head_in, tail_in}

-- ---- lists

-- of a list, what one test keeps, where it keeps nothing that another one takes out
pub filter_apart : {X : Type 0} (p q : X → Bool) (xs : List X) → ((x : X) → q x ≡ true → p x ≡ false) → filter p xs ≡ filter p (filter (λ x. not (q x)) xs)
filter_apart {X} p q xs none =
    sym (filter_keeps (λ (x : X). not (q x)) (filter p xs) (λ x c. ap not (false_from_ne_true (q x) (λ e. true≢false (sym (in_filter p xs x c).1 ∙ none x e)))))
    ∙ filter_swaps (λ (x : X). not (q x)) p xs

pub says_apart : {X Y : Type 0} (f : X → List Y) (q : X → Bool) (xs : List X) → ((x : X) → q x ≡ true → f x ≡ []) → flat_map f xs ≡ flat_map f (filter (λ x. not (q x)) xs)
says_apart f q [] none = refl
says_apart {X} {Y} f q (x ∷ xs) none = go (says_apart f q xs none) (q x) refl
  where
    go : flat_map f xs ≡ flat_map f (filter (λ x. not (q x)) xs) → (b : Bool) → q x ≡ b → f x ++ flat_map f xs ≡ flat_map f (cond (not b) (x ∷ filter (λ x. not (q x)) xs) (filter (λ x. not (q x)) xs))
    go rest true e = ap (λ (l : List Y). l ++ flat_map f xs) (none x e) ∙ rest
    go rest false e = ap (λ (l : List Y). f x ++ l) rest

-- what is found is the first that the test keeps
abbrev pub first_of_list : {X : Type 0} → List X → Option X
first_of_list [] = None
first_of_list (x ∷ xs) = Some x

pub find_first : {X : Type 0} (p : X → Bool) (xs : List X) → find p xs ≡ first_of_list (filter p xs)
find_first p [] = refl
find_first {X} p (x ∷ xs) = go (find_first p xs) (p x)
  where
    go : find p xs ≡ first_of_list (filter p xs) → (b : Bool) → cond b (Some x) (find p xs) ≡ first_of_list (cond b (x ∷ filter p xs) (filter p xs))
    go rest true = refl
    go rest false = rest

pub filter_same : {X : Type 0} (p q : X → Bool) (xs : List X) → ((x : X) → Contains xs x → p x ≡ q x) → filter p xs ≡ filter q xs
filter_same p q [] same = refl
filter_same {X} p q (x ∷ xs) same =
    ap₂ (λ (b : Bool) (l : List X). cond b (x ∷ l) l) (same x (head_in x xs)) (filter_same p q xs (λ y c. same y (tail_in x y xs c)))

-- ---- one type of an inode's items

-- new items have these of the type, and all others stay
pub record IsPart (ino kind : ℕ) (items new part : List Item) : Type 0 where
  pub here : filter (is_at ino kind) new ≡ part
  pub others : filter (λ item. not (is_at ino kind item)) new ≡ filter (λ item. not (is_at ino kind item)) items

-- each item of the range is of the type, and none beside it
pub record IsRangeOf (ino kind : ℕ) (first last : Key) (items : List Item) : Type 0 where
  pub low : (item : Item) → Contains items item → key_below item.0 first ≡ true → is_at ino kind item ≡ false
  pub high : (item : Item) → Contains items item → key_below last item.0 ≡ true → is_at ino kind item ≡ false
  pub inside : (item : Item) → Contains items item → key_below item.0 first ≡ false → key_below last item.0 ≡ false → is_at ino kind item ≡ true

module _ (ino kind : ℕ) (first last : Key) (items part : List Item) (order : key_below last first ≡ false) (rise : ItemsRise items) (range : IsRangeOf ino kind first last items) (own : (item : Item) → Contains part item → is_at ino kind item ≡ true) where
  abbrev q : Item → Bool
  q item = is_at ino kind item

  front_other : (item : Item) → Contains (lower first items) item → q item ≡ false
  front_other item c = let found = in_filter (λ (x : Item). key_below x.0 first) items item c in range.low item found.0 found.1

  back_other : (item : Item) → Contains (upper last items) item → q item ≡ false
  back_other item c = let found = in_filter (λ (x : Item). key_below last x.0) items item c in range.high item found.0 found.1

  was_own : (item : Item) → Contains (between first last items) item → q item ≡ true
  was_own item c =
      let to = in_filter (λ (x : Item). not (key_below last x.0)) (items_from first items) item c in
      let from = in_filter (λ (x : Item). not (key_below x.0 first)) items item to.0 in
      range.inside item from.0 (not_true (key_below item.0 first) from.1) (not_true (key_below last item.0) to.1)

  here_is : filter q (with_range first last part items) ≡ part
  here_is =
      filter-append q (lower first items) (part ++ upper last items)
      ∙ ap (λ (l : List Item). l ++ filter q (part ++ upper last items)) (filter_empties q (lower first items) front_other)
      ∙ filter-append q part (upper last items)
      ∙ ap (λ (l : List Item). l ++ filter q (upper last items)) (filter_keeps q part own)
      ∙ ap (λ (l : List Item). part ++ l) (filter_empties q (upper last items) back_other)
      ∙ append_nothing part
    where
      append_nothing : (l : List Item) → l ++ [] ≡ l
      append_nothing [] = refl
      append_nothing (x ∷ xs) = ap (λ (l : List Item). x ∷ l) (append_nothing xs)

  pub range_part : IsPart ino kind items (with_range first last part items) part
  range_part = record {
    here = here_is;
    others =
        filter_past (lower first items) part (upper last items) (λ (item : Item). not (q item)) (λ item c. ap not (own item c))
        ∙ sym (filter_past (lower first items) (between first last items) (upper last items) (λ (item : Item). not (q item)) (λ item c. ap not (was_own item c)))
        ∙ ap (filter (λ (item : Item). not (q item))) (sym (three_parts first last items order rise));
  }

-- ---- the keys of one type

at_false : (ino kind : ℕ) (item : Item) → ((item.0.objectid ≡ ino) → (item.0.kind ≡ kind) → ⊥) → is_at ino kind item ≡ false
at_false ino kind item other = false_from_ne_true (is_at ino kind item) (λ e. let at = at_gives ino kind item e in other at.0 at.1)

inside_at : (ino kind : ℕ) (item : Item) (to : ℕ) → key_below item.0 (first_at ino kind) ≡ false → key_below (make_key ino kind to) item.0 ≡ false → is_at ino kind item ≡ true
inside_at ino kind item to from up = at_from ino kind item (grind (arith, low, high)) (grind (arith, low, high))
  where
    low : (ino < item.0.objectid) ⊎ ((ino ≡ item.0.objectid) × (kind ≤ item.0.kind))
    low = elim (not_below_means item.0 (first_at ino kind) from) [
      | inl same ↦ inr (ap (λ (k : Key). k.objectid) (sym same), omega (arith, ap (λ (k : Key). k.kind) same))
      | inr below ↦ let parts = KeyBelow_parts (first_at ino kind) item.0 below in grind (arith, parts)
    ]

    high : (item.0.objectid < ino) ⊎ ((ino ≡ item.0.objectid) × (item.0.kind ≤ kind))
    high = elim (not_below_means (make_key ino kind to) item.0 up) [
      | inl same ↦ inr (ap (λ (k : Key). k.objectid) same, omega (arith, ap (λ (k : Key). k.kind) same))
      | inr below ↦ let parts = KeyBelow_parts item.0 (make_key ino kind to) below in grind (arith, parts)
    ]

low_at : (ino kind : ℕ) (item : Item) → key_below item.0 (first_at ino kind) ≡ true → is_at ino kind item ≡ false
low_at ino kind item below = at_false ino kind item (λ one two. let parts = KeyBelow_parts item.0 (first_at ino kind) (key_below_means item.0 (first_at ino kind) below) in grind (arith, parts, one, two))

high_at : (ino kind : ℕ) (item : Item) → KeyFits item.0 → key_below (last_at ino kind) item.0 ≡ true → is_at ino kind item ≡ false
high_at ino kind item fits above = at_false ino kind item (λ one two. let parts = KeyBelow_parts (last_at ino kind) item.0 (key_below_means (last_at ino kind) item.0 above) in grind (arith, parts, one, two, fits.offset))

kind_range : (ino kind : ℕ) (items : List Item) → HaveKeys items → IsRangeOf ino kind (first_at ino kind) (last_at ino kind) items
kind_range ino kind items keys = record {
  low = λ item c below. low_at ino kind item below;
  high = λ item c above. high_at ino kind item (keys item.0 item.1 c) above;
  inside = λ item c from to. inside_at ino kind item 18446744073709551615 from to;
}

-- those from the lowest to the highest key are those of the type
pub items_at_are : (ino kind : ℕ) (items : List Item) → HaveKeys items → items_at ino kind items ≡ filter (is_at ino kind) items
items_at_are ino kind items keys =
    filter_swaps (λ (x : Item). not (key_below (last_at ino kind) x.0)) (λ (x : Item). not (key_below x.0 (first_at ino kind))) items
    ∙ sym (both_tests (λ (x : Item). not (key_below x.0 (first_at ino kind))) (λ (x : Item). not (key_below (last_at ino kind) x.0)) items)
    ∙ filter_same _ (is_at ino kind) items (λ item c. same item (keys item.0 item.1 c) (key_below item.0 (first_at ino kind)) refl (key_below (last_at ino kind) item.0) refl)
  where
    both_tests : (p r : Item → Bool) (xs : List Item) → filter (λ x. r x && p x) xs ≡ filter p (filter r xs)
    both_tests p r [] = refl
    both_tests p r (x ∷ xs) = head (both_tests p r xs) (r x)
      where
        head : filter (λ x. r x && p x) xs ≡ filter p (filter r xs) → (b : Bool) → cond (b && p x) (x ∷ filter (λ x. r x && p x) xs) (filter (λ x. r x && p x) xs) ≡ filter p (cond b (x ∷ filter r xs) (filter r xs))
        head rest true = ap (λ (l : List Item). cond (p x) (x ∷ l) l) rest
        head rest false = rest

    same : (item : Item) → KeyFits item.0 → (a : Bool) → key_below item.0 (first_at ino kind) ≡ a → (b : Bool) → key_below (last_at ino kind) item.0 ≡ b → (not (key_below (last_at ino kind) item.0) && not (key_below item.0 (first_at ino kind))) ≡ is_at ino kind item
    same item fits true low true high = rw (low, high) (sym (low_at ino kind item low))
    same item fits true low false high = rw (low, high) (sym (low_at ino kind item low))
    same item fits false low true high = rw (low, high) (sym (high_at ino kind item fits high))
    same item fits false low false high = rw (low, high) (sym (inside_at ino kind item 18446744073709551615 low high))

pub part_with_items : (ino kind : ℕ) (current items : List Item) → HaveKeys current → HaveKeys items → ItemsRise items → IsPart ino kind items (with_items_at ino kind current items) (filter (is_at ino kind) current)
part_with_items ino kind current items theirs keys rise =
    subst (IsPart ino kind items (with_items_at ino kind current items)) (items_at_are ino kind current theirs)
    (range_part ino kind (first_at ino kind) (last_at ino kind) items (items_at ino kind current) (at_in_order ino kind) rise (kind_range ino kind items keys)
    (λ item c. (in_filter (is_at ino kind) current item (subst (λ (l : List Item). Contains l item) (items_at_are ino kind current theirs) c)).1))

-- an item at the offset 0, where all items of the type stand there
pub part_with_item : (ino kind : ℕ) (bytes : List ℕ) (items : List Item) → ItemsRise items → ((item : Item) → Contains items item → is_at ino kind item ≡ true → item.0.offset ≡ 0) → IsPart ino kind items (with_item (make_key ino kind 0) bytes items) ((make_key ino kind 0, bytes) ∷ [])
part_with_item ino kind bytes items rise zero =
    let key = make_key ino kind 0 in
    range_part ino kind key key items ((key, bytes) ∷ []) (below_itself key) rise (record {
      low = λ item c below. low_at ino kind item below;
      high = λ item c above. false_from_ne_true (is_at ino kind item) (λ e. let at = at_gives ino kind item e in let parts = KeyBelow_parts key item.0 (key_below_means key item.0 above) in grind (arith, parts, at.0, at.1, zero item c e));
      inside = λ item c from to. inside_at ino kind item 0 from to;
    })
    (λ item c. elim (in_cons (key, bytes) item [] c) [ inl same ↦ subst (λ (x : Item). is_at ino kind x ≡ true) same (at_from ino kind (key, bytes) refl refl) | inr none ↦ absurd (in_nothing item none) ])

pub part_stays : (ino kind : ℕ) (items : List Item) → IsPart ino kind items items (filter (is_at ino kind) items)
part_stays ino kind items = record { here = refl; others = refl }

-- what another test keeps
pub keeps_others : (ino kind : ℕ) (items new part : List Item) → IsPart ino kind items new part → (p : Item → Bool) → ((item : Item) → is_at ino kind item ≡ true → p item ≡ false) → filter p new ≡ filter p items
keeps_others ino kind items new part is p none =
    filter_apart p (is_at ino kind) new none ∙ ap (filter p) is.others ∙ sym (filter_apart p (is_at ino kind) items none)
