-- A list of items by a range of keys: those in front of it, in it and behind it, and those in it behind its first.
use Rattle.std.proofs.Common.{◌≡◌, ◌⊎◌, ◌∙◌, ◌+◌, ℕ, Bool, true, false, not, List, [], ◌∷◌, ◌++◌, refl, sym, ap, subst, inl, inr, arith, append_assoc}
use Rattle.std.specs.Prelude.{All, filter}
use Rattle.std.proofs.lemmas.Bool.{cases_Bool, false_from_ne_true, true≢false}
use Rattle.std.proofs.lemmas.List.Elements.{All-head, All-tail, All-weaker}
use Rattle.blk_base.specs.declared.key.Key.{Key}
use Rattle.blk_base.specs.Keys.{KeyBelow, key_below}
use Rattle.blk_base.specs.Leaf.{Item}
use Rattle.blk_base.specs.Trees.{ItemsRise}
use Rattle.leaf_view.specs.KeyOrder.{KeyBelow_from, KeyBelow_irrefl, KeyBelow_parts, KeyBelow_trans}
use Rattle.leaf_view.proofs.Rising.{key_below_from, key_below_means}
use Rattle.tree_range.specs.Between.{AreAbove, items_between}
use Rattle.tree_range.proofs.Rise.{rise_head, rise_tail}
use Rattle.tree_range.proofs.Under.{filter_all, filter_none}
use Rattle.tree_delete_range.specs.Outside.{items_outside}
use Rattle.cow_tree.proofs.Items.{rise_filter}
use Rattle.volume_image.specs.Subvolume.{item_addresses}
use Rattle.data_release.specs.LetGo.{behind, files, in_front}
use Rattle.table_volume.proofs.Items.{Lower, Same, Side, Upper, side}

not_below_self : (a b : Key) → KeyBelow a b → key_below b a ≡ false
not_below_self a b h = false_from_ne_true (key_below b a) (λ k. KeyBelow_irrefl a (KeyBelow_trans a b a h (key_below_means b a k)))

-- behind an item that isn't in front of a key none is, and behind one that is behind a key all are
none_in_front : (first : Key) (x : Item) (xs : List Item) → AreAbove x.0 xs → key_below x.0 first ≡ false → All (λ (item : Item). key_below item.0 first ≡ false) xs
none_in_front first x xs above out =
    All-weaker (λ (item : Item). KeyBelow x.0 item.0) (λ (item : Item). key_below item.0 first ≡ false) (λ y h. false_from_ne_true (key_below y.0 first) (λ k. true≢false (sym (key_below_from x.0 first (KeyBelow_trans x.0 y.0 first h (key_below_means y.0 first k))) ∙ out))) xs above

all_behind : (last : Key) (x : Item) (xs : List Item) → AreAbove x.0 xs → key_below last x.0 ≡ true → All (λ (item : Item). key_below last item.0 ≡ true) xs
all_behind last x xs above is =
    All-weaker (λ (item : Item). KeyBelow x.0 item.0) (λ (item : Item). key_below last item.0 ≡ true) (λ y h. key_below_from last y.0 (KeyBelow_trans last x.0 y.0 (key_below_means last x.0 is) h)) xs above

none_between : (first last : Key) (xs : List Item) → All (λ (item : Item). key_below last item.0 ≡ true) xs → items_between first last xs ≡ []
none_between first last [] h = refl
none_between first last (x ∷ xs) h =
    let out : key_below last x.0 ≡ true = All-head (λ (item : Item). key_below last item.0 ≡ true) x xs h in
    let rest : items_between first last xs ≡ [] = none_between first last xs (All-tail (λ (item : Item). key_below last item.0 ≡ true) x xs h) in
    elim (cases_Bool (key_below x.0 first)) [
      | inl low ↦ rw low rest
      | inr kept ↦ rw (kept, out) rest
    ]

module _ (first last : Key) (order : KeyBelow first last) where
  -- a key in front of the range isn't behind it
  not_both : (k : Key) → key_below k first ≡ true → key_below last k ≡ false
  not_both k low = not_below_self k last (KeyBelow_trans k first last (key_below_means k first low) order)

  pub parts_of : (items : List Item) → ItemsRise items → files items ≡ files (in_front first items) ++ (files (items_between first last items) ++ files (behind last items))
  parts_of [] rise = refl
  parts_of (x ∷ xs) rise =
      let rest : files xs ≡ files (in_front first xs) ++ (files (items_between first last xs) ++ files (behind last xs)) = parts_of xs (rise_tail x xs rise) in
      let above : AreAbove x.0 xs = rise_head x xs rise in
      elim (cases_Bool (key_below x.0 first)) [
        | inl low ↦ rw (low, not_both x.0 low) (ap (λ (l : List ℕ). item_addresses x ++ l) rest ∙ sym (append_assoc (item_addresses x) (files (in_front first xs)) (files (items_between first last xs) ++ files (behind last xs))))
        | inr kept ↦
            let none : in_front first xs ≡ [] = filter_none (λ (item : Item). key_below item.0 first) xs (none_in_front first x xs above kept) in
            let less : files xs ≡ files (items_between first last xs) ++ files (behind last xs) = rest ∙ ap (λ (l : List Item). files l ++ (files (items_between first last xs) ++ files (behind last xs))) none in
            elim (cases_Bool (key_below last x.0)) [
              | inl high ↦
                  let gone : items_between first last xs ≡ [] = none_between first last xs (all_behind last x xs above high) in
                  let last_part : files xs ≡ files (behind last xs) = less ∙ ap (λ (l : List Item). files l ++ files (behind last xs)) gone in
                  rw (kept, high, none) (rw gone (ap (λ (l : List ℕ). item_addresses x ++ l) last_part))
              | inr within ↦ rw (kept, within, none) (ap (λ (l : List ℕ). item_addresses x ++ l) less ∙ sym (append_assoc (item_addresses x) (files (items_between first last xs)) (files (behind last xs))))
            ]
      ]

  pub outside_of : (items : List Item) → ItemsRise items → files (items_outside first last items) ≡ files (in_front first items) ++ files (behind last items)
  outside_of [] rise = refl
  outside_of (x ∷ xs) rise =
      let rest : files (items_outside first last xs) ≡ files (in_front first xs) ++ files (behind last xs) = outside_of xs (rise_tail x xs rise) in
      let above : AreAbove x.0 xs = rise_head x xs rise in
      elim (cases_Bool (key_below x.0 first)) [
        | inl low ↦ rw (low, not_both x.0 low) (ap (λ (l : List ℕ). item_addresses x ++ l) rest ∙ sym (append_assoc (item_addresses x) (files (in_front first xs)) (files (behind last xs))))
        | inr kept ↦
            let none : in_front first xs ≡ [] = filter_none (λ (item : Item). key_below item.0 first) xs (none_in_front first x xs above kept) in
            let less : files (items_outside first last xs) ≡ files (behind last xs) = rest ∙ ap (λ (l : List Item). files l ++ files (behind last xs)) none in
            elim (cases_Bool (key_below last x.0)) [
              | inl high ↦ rw (kept, high, none) (ap (λ (l : List ℕ). item_addresses x ++ l) less)
              | inr within ↦ rw (kept, within, none) less
            ]
      ]

-- ---- the range behind its first item

within_filter : (p q : Item → Bool) → ((x : Item) → p x ≡ true → q x ≡ true) → (xs : List Item) → filter p (filter q xs) ≡ filter p xs
within_filter p q implies [] = refl
within_filter p q implies (x ∷ xs) = elim (cases_Bool (q x)) [
  | inl is_q ↦ elim (cases_Bool (p x)) [
    | inl both ↦ rw (is_q, both) (ap (λ (l : List Item). x ∷ l) (within_filter p q implies xs))
    | inr one ↦ rw (is_q, one) (within_filter p q implies xs)
  ]
  | inr not_q ↦ let out : p x ≡ false = false_from_ne_true (p x) (λ h. true≢false (sym (implies x h) ∙ not_q)) in rw (not_q, out) (within_filter p q implies xs)
]

filters_commute : (p q : Item → Bool) (xs : List Item) → filter p (filter q xs) ≡ filter q (filter p xs)
filters_commute p q [] = refl
filters_commute p q (x ∷ xs) = elim (cases_Bool (p x)) [
  | inl a ↦ elim (cases_Bool (q x)) [
    | inl b ↦ rw (a, b) (rw a (ap (λ (l : List Item). x ∷ l) (filters_commute p q xs)))
    | inr b ↦ rw (a, b) (filters_commute p q xs)
  ]
  | inr a ↦ elim (cases_Bool (q x)) [
    | inl b ↦ rw (a, b) (rw a (filters_commute p q xs))
    | inr b ↦ rw (a, b) (filters_commute p q xs)
  ]
]

-- the key behind one
abbrev pub key_after : Key → Key
key_after key = record key { offset = key.offset + 1 }

after_is_above : (key : Key) → KeyBelow key (key_after key)
after_is_above key = KeyBelow_from key (key_after key) (inr (refl, inr (refl, omega arith)))

none_inside : (key other : Key) → KeyBelow key other → key_below other (key_after key) ≡ false
none_inside key other h = false_from_ne_true (key_below other (key_after key)) (λ k.
    let a = KeyBelow_parts key other h in
    let b = KeyBelow_parts other (key_after key) (key_below_means other (key_after key) k) in
    grind (arith, a, b))

key_order : (a b : Key) → key_below a b ≡ false → (a ≡ b) ⊎ KeyBelow b a
key_order a b h = by (side a b)
  where
    by : Side a b → (a ≡ b) ⊎ KeyBelow b a
    by (Lower low) = absurd (true≢false (sym (key_below_from a b low) ∙ h))
    by (Same same) = inl same
    by (Upper up) = inr up

pub between_next : (from last : Key) (items rest : List Item) (x : Item) → ItemsRise items → items_between from last items ≡ x ∷ rest → key_below x.0 from ≡ false → items_between (key_after x.0) last items ≡ rest
between_next from last items rest x rise is kept =
    let next : Key = key_after x.0 in
    let p : Item → Bool = λ (item : Item). not (key_below item.0 next) in
    let q : Item → Bool = λ (item : Item). not (key_below item.0 from) in
    let r : Item → Bool = λ (item : Item). not (key_below last item.0) in
    let implies : (y : Item) → p y ≡ true → q y ≡ true = λ y h. elim (cases_Bool (key_below y.0 from)) [
      | inl low ↦
          let below_x : KeyBelow y.0 next = elim (key_order x.0 from kept) [
            | inl same ↦ KeyBelow_trans y.0 x.0 next (subst (λ (k : Key). KeyBelow y.0 k) (sym same) (key_below_means y.0 from low)) (after_is_above x.0)
            | inr more ↦ KeyBelow_trans y.0 x.0 next (KeyBelow_trans y.0 from x.0 (key_below_means y.0 from low) more) (after_is_above x.0)
          ] in
          absurd (true≢false (sym h ∙ ap not (key_below_from y.0 next below_x)))
      | inr out ↦ ap not out
    ] in
    let rises : ItemsRise (x ∷ rest) = subst ItemsRise is (rise_filter r (filter q items) (rise_filter q items rise)) in
    let first_out : p x ≡ false = ap not (key_below_from x.0 next (after_is_above x.0)) in
    let rest_in : filter p rest ≡ rest = filter_all p rest (All-weaker (λ (item : Item). KeyBelow x.0 item.0) (λ (item : Item). p item ≡ true) (λ y h. ap not (none_inside x.0 y.0 h)) rest (rise_head x rest rises)) in
    let whole : filter p (x ∷ rest) ≡ rest = rw first_out rest_in in
    ap (filter r) (sym (within_filter p q implies items)) ∙ filters_commute r p (filter q items) ∙ ap (filter p) is ∙ whole
