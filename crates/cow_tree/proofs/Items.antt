-- Lists of items that rise, with one item put under its key.
use Rattle.std.proofs.Common.{◌≡◌, ◌≤◌, ◌+◌, ◌*◌, ℕ, zero, suc, Bool, true, false, List, [], ◌∷◌, ◌++◌, length, take, drop, slice_get, refl, ap, ◌∙◌, sym, subst, Option, Some, None, arith, append_assoc, length-append}
use Rattle.std.specs.Prelude.{All, filter, if◌then◌else◌}
use Rattle.std.proofs.lemmas.Bool.{and_parts, false_from_ne_true}
use Rattle.std.proofs.lemmas.List.{append-nil}
use Rattle.std.proofs.lemmas.List.Elements.{All-head, All-tail, All-filter, All-map, All-same, All-weaker, filter-append, filter_passes}
use Rattle.std.proofs.Math.Seq.{take-append_seam, drop-append_seam}
use Rattle.blk_base.specs.declared.key.Key.{Key}
use Rattle.blk_base.specs.Keys.{KeyBelow, key_below, keys_rise}
use Rattle.blk_base.specs.Leaf.{Item, data_of, room_of}
use Rattle.blk_base.specs.Trees.{ItemsRise}
use Rattle.leaf_view.specs.KeyOrder.{KeyBelow_irrefl, KeyBelow_trans}
use Rattle.leaf_view.specs.Search.{IsPlace, keys_of}
use Rattle.leaf_view.proofs.Rising.{key_below_from, key_below_means}
use Rattle.tree_range.specs.Between.{AreAbove, AreBelow, data_under, has_key}
use Rattle.tree_range.proofs.Cuts.{cut_at, length_cut, mapped_at, All-unmap}
use Rattle.tree_range.proofs.Rise.{rise_before, rise_head, rise_right, rise_tail}
use Rattle.tree_range.proofs.Under.{filter_all, filter_none, none_above, none_below, not_below, under_none, under_past}
use Rattle.tree_blocks.proofs.Orders.{keys_of-append}
use Rattle.tree_frame.specs.Frame.{with_item}

-- ---- order

pub rises_over : (x : Item) (xs : List Item) → AreAbove x.0 xs → ItemsRise xs → ItemsRise (x ∷ xs)
rises_over x [] above rise = tt
rises_over x (y ∷ ys) above rise = (All-head (λ (item : Item). KeyBelow x.0 item.0) y ys above, rise)

either : (b : Bool) (x : Item) (xs : List Item) → ItemsRise (x ∷ xs) → ItemsRise xs → ItemsRise (if b then x ∷ xs else xs)
either true x xs kept rest = kept
either false x xs kept rest = rest

pub rise_filter : (p : Item → Bool) (xs : List Item) → ItemsRise xs → ItemsRise (filter p xs)
rise_filter p [] rise = tt
rise_filter p (x ∷ xs) rise =
    let rest : ItemsRise (filter p xs) = rise_filter p xs (rise_tail x xs rise) in
    let kept : ItemsRise (x ∷ filter p xs) = rises_over x (filter p xs) (All-filter p (λ (item : Item). KeyBelow x.0 item.0) xs (rise_head x xs rise)) rest in
    either (p x) x (filter p xs) kept rest

pub rise_append : (xs : List Item) (y : Item) (ys : List Item) → AreBelow y.0 xs → ItemsRise xs → ItemsRise (y ∷ ys) → ItemsRise (xs ++ y ∷ ys)
rise_append [] y ys below left right = right
rise_append (x ∷ []) y ys below left right = (All-head (λ (item : Item). KeyBelow item.0 y.0) x [] below, right)
rise_append (x ∷ z ∷ xs) y ys below left right =
    (left.0, rise_append (z ∷ xs) y ys (All-tail (λ (item : Item). KeyBelow item.0 y.0) x (z ∷ xs) below) left.1 right)

-- the items whose keys are below a key, and those whose keys are above it
abbrev pub lower : Key → List Item → List Item
lower key items = filter (λ item. key_below item.0 key) items

abbrev pub upper : Key → List Item → List Item
upper key items = filter (λ item. key_below key item.0) items

pub lower_below : (key : Key) (items : List Item) → AreBelow key (lower key items)
lower_below key items = All-weaker (λ (item : Item). key_below item.0 key ≡ true) (λ (item : Item). KeyBelow item.0 key) (λ item h. key_below_means item.0 key h) (lower key items) (filter_passes (λ (item : Item). key_below item.0 key) items)

pub upper_above : (key : Key) (items : List Item) → AreAbove key (upper key items)
upper_above key items = All-weaker (λ (item : Item). key_below key item.0 ≡ true) (λ (item : Item). KeyBelow key item.0) (λ item h. key_below_means key item.0 h) (upper key items) (filter_passes (λ (item : Item). key_below key item.0) items)

-- the items still rise
pub with_rise : (key : Key) (bytes : List ℕ) (items : List Item) → ItemsRise items → ItemsRise (with_item key bytes items)
with_rise key bytes items rise =
    let up : ItemsRise (upper key items) = rise_filter (λ (item : Item). key_below key item.0) items rise in
    let low : ItemsRise (lower key items) = rise_filter (λ (item : Item). key_below item.0 key) items rise in
    let item : Item = (key, bytes) in
    rise_append (lower key items) item (upper key items) (lower_below key items) low (rises_over item (upper key items) (upper_above key items) up)

-- ---- items that are all below a key, or all above it

not_above : (key : Key) (items : List Item) → AreBelow key items → All (λ (item : Item). key_below key item.0 ≡ false) items
not_above key items h = All-weaker (λ (item : Item). KeyBelow item.0 key) (λ (item : Item). key_below key item.0 ≡ false) (λ item k. false_from_ne_true (key_below key item.0) (λ e. KeyBelow_irrefl key (KeyBelow_trans key item.0 key (key_below_means key item.0 e) k))) items h

pub lower_all : (key : Key) (items : List Item) → AreBelow key items → lower key items ≡ items
lower_all key items h = filter_all (λ (item : Item). key_below item.0 key) items (All-weaker (λ (item : Item). KeyBelow item.0 key) (λ (item : Item). key_below item.0 key ≡ true) (λ item k. key_below_from item.0 key k) items h)

pub lower_none : (key : Key) (items : List Item) → AreAbove key items → lower key items ≡ []
lower_none key items h = filter_none (λ (item : Item). key_below item.0 key) items (not_below key items h)

pub upper_all : (key : Key) (items : List Item) → AreAbove key items → upper key items ≡ items
upper_all key items h = filter_all (λ (item : Item). key_below key item.0) items (All-weaker (λ (item : Item). KeyBelow key item.0) (λ (item : Item). key_below key item.0 ≡ true) (λ item k. key_below_from key item.0 k) items h)

pub upper_none : (key : Key) (items : List Item) → AreBelow key items → upper key items ≡ []
upper_none key items h = filter_none (λ (item : Item). key_below key item.0) items (not_above key items h)

pub lower_append : (key : Key) (xs ys : List Item) → lower key (xs ++ ys) ≡ lower key xs ++ lower key ys
lower_append key xs ys = filter-append (λ (item : Item). key_below item.0 key) xs ys

pub upper_append : (key : Key) (xs ys : List Item) → upper key (xs ++ ys) ≡ upper key xs ++ upper key ys
upper_append key xs ys = filter-append (λ (item : Item). key_below key item.0) xs ys

regroup : (l a : List Item) (x : Item) (b r : List Item) → (l ++ a) ++ x ∷ (b ++ r) ≡ l ++ ((a ++ x ∷ b) ++ r)
regroup l a x b r = simp append_assoc

-- the item goes among those in the middle
pub with_middle : (key : Key) (bytes : List ℕ) (l m r : List Item) → AreBelow key l → AreAbove key r → with_item key bytes (l ++ (m ++ r)) ≡ l ++ (with_item key bytes m ++ r)
with_middle key bytes l m r below above =
    let item : Item = (key, bytes) in
    let low : lower key (l ++ (m ++ r)) ≡ l ++ lower key m =
    lower_append key l (m ++ r) ∙ ap (λ (xs : List Item). xs ++ lower key (m ++ r)) (lower_all key l below)
    ∙ ap (λ (xs : List Item). l ++ xs) (lower_append key m r ∙ ap (λ (xs : List Item). lower key m ++ xs) (lower_none key r above) ∙ append-nil (lower key m)) in
    let up : upper key (l ++ (m ++ r)) ≡ upper key m ++ r =
    upper_append key l (m ++ r) ∙ ap (λ (xs : List Item). xs ++ upper key (m ++ r)) (upper_none key l below)
    ∙ upper_append key m r ∙ ap (λ (xs : List Item). upper key m ++ xs) (upper_all key r above) in
    ap (λ (xs : List Item). xs ++ item ∷ upper key (l ++ (m ++ r))) low ∙ ap (λ (xs : List Item). (l ++ lower key m) ++ item ∷ xs) up ∙ regroup l (lower key m) item (upper key m) r

-- what is under the key stands in the middle
under_front : (key : Key) (front rest : List Item) → All (λ (item : Item). has_key key item ≡ false) rest → data_under key (front ++ rest) ≡ data_under key front
under_front key [] rest h = under_none key rest h
under_front key (x ∷ xs) rest h = ap (λ (found : Option (List ℕ)). if has_key key x then Some x.1 else found) (under_front key xs rest h)

pub under_middle : (key : Key) (l m r : List Item) → AreBelow key l → AreAbove key r → data_under key (l ++ (m ++ r)) ≡ data_under key m
under_middle key l m r below above = under_past key l (m ++ r) (none_below key l below) ∙ under_front key m r (none_above key r above)

-- ---- places in a leaf

pub place_keys : (xs ys : List Key) (key : Key) → All (λ k. KeyBelow k key) xs → All (λ k. KeyBelow key k) ys → IsPlace (xs ++ ys) key (length xs)
place_keys xs ys key below above = record {
  within = omega (arith, length-append xs ys);
  below = All-same (λ k. KeyBelow k key) (take (length xs) (xs ++ ys)) xs (take-append_seam xs ys) below;
  above = All-same (λ k. KeyBelow key k) (drop (length xs) (xs ++ ys)) ys (drop-append_seam xs ys) above;
}

-- an item stands at a place under the key
pub record IsFoundAt (items : List Item) (key : Key) (place : ℕ) : Type 0 where
  pub item : Item
  pub there : slice_get items place ≡ Some item
  pub key_is : item.0 ≡ key
  pub cut : items ≡ take place items ++ item ∷ drop (suc place) items
  pub long : length (take place items) ≡ place
  pub below : AreBelow key (take place items)
  pub above : AreAbove key (drop (suc place) items)

pub found_at : (items : List Item) (key : Key) (place : ℕ) → ItemsRise items → slice_get (keys_of items) place ≡ Some key → IsFoundAt items key place
found_at items key place rise found =
    let there = mapped_at (λ (item : Item). item.0) items place key found in
    let x = there.element in
    let cut : items ≡ take place items ++ x ∷ drop (suc place) items = cut_at items place x there.at_place in
    let shown : ItemsRise (take place items ++ x ∷ drop (suc place) items) = subst ItemsRise cut rise in
    record {
      item = x;
      there = there.at_place;
      key_is = there.value_is;
      cut = cut;
      long = length_cut items place x there.at_place;
      below = subst (λ (k : Key). AreBelow k (take place items)) there.value_is (rise_before (take place items) x (drop (suc place) items) shown);
      above = subst (λ (k : Key). AreAbove k (drop (suc place) items)) there.value_is (rise_head x (drop (suc place) items) (rise_right (take place items) (x ∷ drop (suc place) items) shown));
    }

itself_below : (key : Key) → key_below key key ≡ false
itself_below key = false_from_ne_true (key_below key key) (λ e. KeyBelow_irrefl key (key_below_means key key e))

lower_head : (key : Key) (x : Item) (xs : List Item) → x.0 ≡ key → lower key (x ∷ xs) ≡ lower key xs
lower_head key x xs e = let no : key_below x.0 key ≡ false = ap (λ (k : Key). key_below k key) e ∙ itself_below key in ap (λ (b : Bool). if b then x ∷ lower key xs else lower key xs) no

upper_head : (key : Key) (x : Item) (xs : List Item) → x.0 ≡ key → upper key (x ∷ xs) ≡ upper key xs
upper_head key x xs e = let no : key_below key x.0 ≡ false = ap (λ (k : Key). key_below key k) e ∙ itself_below key in ap (λ (b : Bool). if b then x ∷ upper key xs else upper key xs) no

-- a leaf without the item that was found
pub found_lower : (items : List Item) (key : Key) (place : ℕ) → IsFoundAt items key place → lower key items ≡ take place items
found_lower items key place h =
    let l = take place items in
    let r = drop (suc place) items in
    ap (lower key) h.cut ∙ lower_append key l (h.item ∷ r) ∙ ap (λ (xs : List Item). lower key l ++ xs) (lower_head key h.item r h.key_is ∙ lower_none key r h.above) ∙ append-nil (lower key l) ∙ lower_all key l h.below

pub found_upper : (items : List Item) (key : Key) (place : ℕ) → IsFoundAt items key place → upper key items ≡ drop (suc place) items
found_upper items key place h =
    let l = take place items in
    let r = drop (suc place) items in
    ap (upper key) h.cut ∙ upper_append key l (h.item ∷ r) ∙ ap (λ (xs : List Item). xs ++ upper key (h.item ∷ r)) (upper_none key l h.below) ∙ upper_head key h.item r h.key_is ∙ upper_all key r h.above

length_keys : (items : List Item) → length (keys_of items) ≡ length items
length_keys [] = refl
length_keys (x ∷ xs) = ap (λ n. suc n) (length_keys xs)

pub cut_place : (l r : List Item) (key : Key) (place : ℕ) → length l ≡ place → AreBelow key l → AreAbove key r → IsPlace (keys_of (l ++ r)) key place
cut_place l r key place long below above =
    let P : Key → Type 0 = λ (k : Key). KeyBelow k key in
    let Q : Key → Type 0 = λ (k : Key). KeyBelow key k in
    let made : IsPlace (keys_of l ++ keys_of r) key (length (keys_of l)) = place_keys (keys_of l) (keys_of r) key (All-map P (λ (item : Item). item.0) l below) (All-map Q (λ (item : Item). item.0) r above) in
    let at : length (keys_of l) ≡ place = length_keys l ∙ long in
    subst (λ (ks : List Key). IsPlace ks key place) (sym (keys_of-append l r)) (subst (λ (n : ℕ). IsPlace (keys_of l ++ keys_of r) key n) at made)

take_keys : (n : ℕ) (items : List Item) → take n (keys_of items) ≡ keys_of (take n items)
take_keys zero items = refl
take_keys (suc n) [] = refl
take_keys (suc n) (x ∷ xs) = ap (λ (ks : List Key). x.0 ∷ ks) (take_keys n xs)

drop_keys : (n : ℕ) (items : List Item) → drop n (keys_of items) ≡ keys_of (drop n items)
drop_keys zero items = refl
drop_keys (suc n) [] = refl
drop_keys (suc n) (x ∷ xs) = drop_keys n xs

take_drop : (n : ℕ) (items : List Item) → items ≡ take n items ++ drop n items
take_drop zero items = refl
take_drop (suc n) [] = refl
take_drop (suc n) (x ∷ xs) = ap (λ (ys : List Item). x ∷ ys) (take_drop n xs)

-- where no item has the key
pub below_place : (items : List Item) (key : Key) (place : ℕ) → IsPlace (keys_of items) key place → AreBelow key (take place items)
below_place items key place h = All-unmap (λ (k : Key). KeyBelow k key) (λ (item : Item). item.0) (take place items) (subst (λ (l : List Key). All (λ (k : Key). KeyBelow k key) l) (take_keys place items) h.below)

pub above_place : (items : List Item) (key : Key) (place : ℕ) → IsPlace (keys_of items) key place → AreAbove key (drop place items)
above_place items key place h = All-unmap (λ (k : Key). KeyBelow key k) (λ (item : Item). item.0) (drop place items) (subst (λ (l : List Key). All (λ (k : Key). KeyBelow key k) l) (drop_keys place items) h.above)

pub absent_lower : (items : List Item) (key : Key) (place : ℕ) → IsPlace (keys_of items) key place → lower key items ≡ take place items
absent_lower items key place h =
    ap (lower key) (take_drop place items) ∙ lower_append key (take place items) (drop place items) ∙ ap (λ (xs : List Item). lower key (take place items) ++ xs) (lower_none key (drop place items) (above_place items key place h)) ∙ append-nil (lower key (take place items)) ∙ lower_all key (take place items) (below_place items key place h)

pub absent_upper : (items : List Item) (key : Key) (place : ℕ) → IsPlace (keys_of items) key place → upper key items ≡ drop place items
absent_upper items key place h =
    ap (upper key) (take_drop place items) ∙ upper_append key (take place items) (drop place items) ∙ ap (λ (xs : List Item). xs ++ upper key (drop place items)) (upper_none key (take place items) (below_place items key place h)) ∙ upper_all key (drop place items) (above_place items key place h)

pub absent_under : (items : List Item) (key : Key) (place : ℕ) → IsPlace (keys_of items) key place → data_under key items ≡ None
absent_under items key place h =
    ap (data_under key) (take_drop place items) ∙ under_past key (take place items) (drop place items) (none_below key (take place items) (below_place items key place h)) ∙ under_none key (drop place items) (none_above key (drop place items) (above_place items key place h))

-- keys that rise by the test
pub items_rise : (items : List Item) → keys_rise (keys_of items) ≡ true → ItemsRise items
items_rise [] h = tt
items_rise (x ∷ []) h = tt
items_rise (x ∷ y ∷ ys) h =
    let both = and_parts (key_below x.0 y.0) (keys_rise (keys_of (y ∷ ys))) h in
    (key_below_means x.0 y.0 both.0, items_rise (y ∷ ys) both.1)

-- ---- room

pub data_append : (xs ys : List Item) → data_of (xs ++ ys) ≡ data_of xs + data_of ys
data_append [] ys = omega arith
data_append (x ∷ xs) ys = omega (arith, data_append xs ys)

-- an item that is taken out leaves its room
pub room_without : (l : List Item) (x : Item) (r : List Item) → 25 * length (l ++ x ∷ r) + data_of (l ++ x ∷ r) ≤ 3995 → room_of (l ++ r) ≡ room_of (l ++ x ∷ r) + (25 + length x.1)
room_without l x r fits =
    omega (arith, fits, length-append l (x ∷ r), length-append l r, data_append l (x ∷ r), data_append l r)
