-- How often the data blocks of items name a byte address, where one item is put among them.
use Rattle.std.proofs.Common.{◌≡◌, ◌≢◌, ◌+◌, ◌*◌, ℕ, zero, suc, Bool, true, false, List, [], ◌∷◌, Option, Some, None, Ok, refl, sym, ap, subst, ◌∙◌, arith}
use Rattle.std.specs.Prelude.{filter, if◌then◌else◌}
use Rattle.std.specs.List.{flat_map}
use Rattle.std.proofs.lemmas.Grind.{flat_map-append}
use Rattle.std.proofs.lemmas.Bool.{false_from_ne_true, true≢false}
use Rattle.std.proofs.lemmas.List.Elements.{All-weaker}
use Rattle.blk_base.specs.declared.key.Key.{Key}
use Rattle.blk_base.specs.Extents.{Regular, extent_of}
use Rattle.blk_base.specs.Keys.{KeyBelow, extent_data, key_below}
use Rattle.blk_base.specs.Leaf.{Item}
use Rattle.blk_base.specs.Trees.{ItemsRise}
use Rattle.leaf_view.specs.KeyOrder.{KeyBelow_trans}
use Rattle.leaf_view.proofs.Rising.{key_below_from}
use Rattle.tree_range.specs.Between.{AreAbove, data_under, has_key}
use Rattle.tree_range.specs.Part.{times_in}
use Rattle.tree_range.proofs.Rise.{rise_head, rise_tail}
use Rattle.tree_range.proofs.Times.{times_append}
use Rattle.tree_range.proofs.Under.{filter_all, filter_none, has_key_means, none_above, not_below, under_here, under_none}
use Rattle.tree_frame.specs.Frame.{with_item}
use Rattle.table_volume.proofs.Items.{Lower, Same, Side, Upper, not_both, not_itself, side}
use Rattle.volume_image.specs.Subvolume.{data_addresses, item_addresses, make_key, run_addresses}

abbrev low : Key → List Item → List Item
low key items = filter (λ item. key_below item.0 key) items

abbrev high : Key → List Item → List Item
high key items = filter (λ item. key_below key item.0) items

abbrev files : List Item → List ℕ
files items = flat_map item_addresses items

-- the data blocks of the item under a key, where there is one
abbrev pub addresses_there : Key → Option (List ℕ) → List ℕ
addresses_there key None = []
addresses_there key (Some bytes) = item_addresses (key, bytes)

abbrev times : ℕ → List Item → ℕ
times at items = times_in at (files items)

times_first : (at : ℕ) (x : Item) (xs : List Item) → times at (x ∷ xs) ≡ times_in at (item_addresses x) + times at xs
times_first at x xs = times_append at (item_addresses x) (files xs)

module _ (key : Key) (x : Item) (xs : List Item) where
  low_in : key_below x.0 key ≡ true → low key (x ∷ xs) ≡ x ∷ low key xs
  low_in h = rw h refl

  low_out : key_below x.0 key ≡ false → low key (x ∷ xs) ≡ low key xs
  low_out h = rw h refl

  high_in : key_below key x.0 ≡ true → high key (x ∷ xs) ≡ x ∷ high key xs
  high_in h = rw h refl

  high_out : key_below key x.0 ≡ false → high key (x ∷ xs) ≡ high key xs
  high_out h = rw h refl

  under_past_one : x.0 ≢ key → data_under key (x ∷ xs) ≡ data_under key xs
  under_past_one ne =
      let out : has_key key x ≡ false = false_from_ne_true (has_key key x) (λ h. ne (has_key_means key x h)) in
      ap (λ (b : Bool). if b then Some x.1 else data_under key xs) out

  under_first : x.0 ≡ key → data_under key (x ∷ xs) ≡ Some x.1
  under_first same = ap (λ (k : Key). data_under k (x ∷ xs)) (sym same) ∙ under_here x xs

  all_above : KeyBelow key x.0 → ItemsRise (x ∷ xs) → AreAbove key xs
  all_above h rise = All-weaker (λ (item : Item). KeyBelow x.0 item.0) (λ (item : Item). KeyBelow key item.0) (λ item k. KeyBelow_trans key x.0 item.0 h k) xs (rise_head x xs rise)

  same_above : x.0 ≡ key → ItemsRise (x ∷ xs) → AreAbove key xs
  same_above same rise = subst (λ (k : Key). AreAbove k xs) same (rise_head x xs rise)

low_none : (key : Key) (xs : List Item) → AreAbove key xs → low key xs ≡ []
low_none key xs above = filter_none (λ (item : Item). key_below item.0 key) xs (not_below key xs above)

high_all : (key : Key) (xs : List Item) → AreAbove key xs → high key xs ≡ xs
high_all key xs above = filter_all (λ (item : Item). key_below key item.0) xs (All-weaker (λ (item : Item). KeyBelow key item.0) (λ (item : Item). key_below key item.0 ≡ true) (λ item h. key_below_from key item.0 h) xs above)

under_above : (key : Key) (xs : List Item) → AreAbove key xs → data_under key xs ≡ None
under_above key xs above = under_none key xs (none_above key xs above)

not_same : (a b : Key) → KeyBelow a b → a ≢ b
not_same a b h e = true≢false (sym (key_below_from a b h) ∙ ap (λ (k : Key). key_below k b) e ∙ not_itself b)

not_same_up : (a b : Key) → KeyBelow b a → a ≢ b
not_same_up a b h e = true≢false (sym (key_below_from b a h) ∙ ap (λ (k : Key). key_below b k) e ∙ not_itself b)

by_side : (at : ℕ) (key : Key) (x : Item) (xs : List Item) → ItemsRise (x ∷ xs) → times at xs ≡ times at (low key xs) + (times_in at (addresses_there key (data_under key xs)) + times at (high key xs)) → Side x.0 key
    → times at (x ∷ xs) ≡ times at (low key (x ∷ xs)) + (times_in at (addresses_there key (data_under key (x ∷ xs))) + times at (high key (x ∷ xs)))
by_side at key x xs rise rest (Lower h) =
    let a = ap (times at) (low_in key x xs (key_below_from x.0 key h)) in
    let b = ap (times at) (high_out key x xs (not_both x.0 key h)) in
    let u = ap (λ (o : Option (List ℕ)). times_in at (addresses_there key o)) (under_past_one key x xs (not_same x.0 key h)) in
    omega (arith, a, b, u, rest, times_first at x xs, times_first at x (low key xs))
by_side at key x xs rise rest (Same h) =
    let above : AreAbove key xs = same_above key x xs h rise in
    let a = ap (times at) (low_out key x xs (ap (λ (k : Key). key_below k key) h ∙ not_itself key) ∙ low_none key xs above) in
    let b = ap (times at) (high_out key x xs (ap (λ (k : Key). key_below key k) h ∙ not_itself key) ∙ high_all key xs above) in
    let u = ap (λ (o : Option (List ℕ)). times_in at (addresses_there key o)) (under_first key x xs h) in
    let v = ap (λ (k : Key). times_in at (item_addresses (k, x.1))) h in
    omega (arith, a, b, u, v, times_first at x xs)
by_side at key x xs rise rest (Upper h) =
    let above : AreAbove key xs = all_above key x xs h rise in
    let a = ap (times at) (low_out key x xs (not_both key x.0 h) ∙ low_none key xs above) in
    let b = ap (times at) (high_in key x xs (key_below_from key x.0 h) ∙ ap (λ (l : List Item). x ∷ l) (high_all key xs above)) in
    let u = ap (λ (o : Option (List ℕ)). times_in at (addresses_there key o)) (under_past_one key x xs (not_same_up x.0 key h) ∙ under_above key xs above) in
    omega (arith, a, b, u)

parted : (at : ℕ) (key : Key) (items : List Item) → ItemsRise items → times at items ≡ times at (low key items) + (times_in at (addresses_there key (data_under key items)) + times at (high key items))
parted at key [] rise = refl
parted at key (x ∷ xs) rise =
    by_side at key x xs rise (parted at key xs (rise_tail x xs rise)) (side x.0 key)

pub times_put : (at : ℕ) (key : Key) (bytes : List ℕ) (items : List Item) → ItemsRise items
    → times_in at (data_addresses (with_item key bytes items)) + times_in at (addresses_there key (data_under key items)) ≡ times_in at (data_addresses items) + times_in at (item_addresses (key, bytes))
times_put at key bytes items rise =
    let whole = ap (times_in at) (flat_map-append item_addresses (low key items) ((key, bytes) ∷ high key items)) in
    let parts = times_append at (files (low key items)) (files ((key, bytes) ∷ high key items)) in
    omega (arith, whole, parts, times_first at (key, bytes) (high key items), parted at key items rise)

-- ---- runs

pub run_addresses_are : (ino begin at count : ℕ) (bytes : List ℕ) → extent_of (make_key ino extent_data (4096 * begin)) bytes ≡ Ok (Regular at 0 (4096 * count)) → item_addresses (make_key ino extent_data (4096 * begin), bytes) ≡ run_addresses at count
run_addresses_are ino begin at count bytes read = rw read (ap (run_addresses at) (omega arith))

pub run_split : (x at m n : ℕ) → times_in x (run_addresses at (m + n)) ≡ times_in x (run_addresses at m) + times_in x (run_addresses (at + 4096 * m) n)
run_split x at zero n =
    let place = ap (λ (p : ℕ). times_in x (run_addresses p n)) (none at) in
    let all = ap (λ (k : ℕ). times_in x (run_addresses at k)) (sum n) in
    omega (arith, place, all)
  where
    none : (a : ℕ) → a ≡ a + 4096 * 0
    none a = omega arith

    sum : (k : ℕ) → 0 + k ≡ k
    sum k = omega arith
run_split x at (suc m) n =
    let more = run_split x (at + 4096) m n in
    let place = ap (λ (p : ℕ). times_in x (run_addresses p n)) (shift at m) in
    let all = ap (λ (k : ℕ). times_in x (run_addresses at k)) (one_more m n) in
    omega (arith, more, place, all)
  where
    one_more : (j k : ℕ) → suc j + k ≡ suc (j + k)
    one_more j k = omega arith

    shift : (a k : ℕ) → (a + 4096) + 4096 * k ≡ a + 4096 * suc k
    shift a k = omega arith
