-- Items of a log with a range of another tree's items rise.
use Rattle.std.proofs.Common.{◌≡◌, ◌++◌, false, not, List, [], ◌∷◌, Contains, refl, sym, ap, subst, inl, inr}
use Rattle.std.proofs.lemmas.List.Elements.{Contains-append_cases}
use Rattle.blk_base.specs.declared.key.Key.{Key}
use Rattle.blk_base.specs.Keys.{KeyBelow, key_below}
use Rattle.blk_base.specs.Leaf.{Item}
use Rattle.blk_base.specs.Trees.{ItemsRise}
use Rattle.cow_tree.proofs.Items.{lower, rise_append, rise_filter, upper}
use Rattle.leaf_view.specs.KeyOrder.{KeyBelow_trans}
use Rattle.leaf_view.proofs.Rising.{key_below_means}
use Rattle.log_image.proofs.Limits.{all_of}
use Rattle.log_items.specs.Copied.{with_range}
use Rattle.log_items.proofs.Copying.{below_low, low_below, not_true}
use Rattle.tree_range.specs.Between.{items_between, items_from}
use Rattle.volume_image.proofs.Members.{in_filter}
use Rattle.volume_image.proofs.Reaches.{head_in}

rise_join : (xs ys : List Item) → ((x y : Item) → Contains xs x → Contains ys y → KeyBelow x.0 y.0) → ItemsRise xs → ItemsRise ys → ItemsRise (xs ++ ys)
rise_join xs [] below one two = subst ItemsRise (sym (append_nothing xs)) one
  where
    append_nothing : (l : List Item) → l ++ [] ≡ l
    append_nothing [] = refl
    append_nothing (x ∷ xs) = ap (λ (l : List Item). x ∷ l) (append_nothing xs)
rise_join xs (y ∷ ys) below one two = rise_append xs y ys (all_of (λ (x : Item). KeyBelow x.0 y.0) xs (λ x c. below x y c (head_in y ys))) one two

module _ (first last : Key) (current items : List Item) (order : key_below last first ≡ false) (theirs : ItemsRise current) (rise : ItemsRise items) where
  abbrev part : List Item
  part = items_between first last current

  in_part : (y : Item) → Contains part y → (key_below y.0 first ≡ false) × (key_below last y.0 ≡ false)
  in_part y c =
      let to = in_filter (λ (x : Item). not (key_below last x.0)) (items_from first current) y c in
      let from = in_filter (λ (x : Item). not (key_below x.0 first)) current y to.0 in
      (not_true (key_below y.0 first) from.1, not_true (key_below last y.0) to.1)

  in_lower : (x : Item) → Contains (lower first items) x → KeyBelow x.0 first
  in_lower x c = key_below_means x.0 first (in_filter (λ (x : Item). key_below x.0 first) items x c).1

  in_upper : (z : Item) → Contains (upper last items) z → KeyBelow last z.0
  in_upper z c = key_below_means last z.0 (in_filter (λ (x : Item). key_below last x.0) items z c).1

  pub range_rises : ItemsRise (with_range first last part items)
  range_rises = rise_join (lower first items) (part ++ upper last items)
      (λ x y c d. elim (Contains-append_cases part (upper last items) y d) [
        | inl here ↦ below_low x.0 first y.0 (in_lower x c) (in_part y here).0
        | inr high ↦ KeyBelow_trans x.0 last y.0 (below_low x.0 first last (in_lower x c) order) (in_upper y high)
      ])
      (rise_filter (λ (x : Item). key_below x.0 first) items rise)
      (rise_join part (upper last items) (λ y z c d. low_below y.0 last z.0 (in_part y c).1 (in_upper z d))
      (rise_filter (λ (x : Item). not (key_below last x.0)) (items_from first current) (rise_filter (λ (x : Item). not (key_below x.0 first)) current theirs))
      (rise_filter (λ (x : Item). key_below last x.0) items rise))
