-- One key has one item among rising items.
use Rattle.std.proofs.Common.{◌≡◌, ℕ, List, [], ◌∷◌, Contains, Less, Equal, sym, ap, subst, ◌∙◌, inl, inr}
use Rattle.blk_base.specs.declared.key.Key.{Key}
use Rattle.blk_base.specs.Keys.{KeyBelow, key_cmp}
use Rattle.blk_base.specs.Leaf.{Item}
use Rattle.leaf_view.specs.KeyOrder.{KeyBelow_trans}
use Rattle.volume_image.specs.Tree.{ItemsRise}
use Rattle.volume_image.proofs.Lists.{in_nothing, in_cons}
use Rattle.volume_image.proofs.Rising.{key_eq-same, equal_from_test}

-- a key in the tail of rising items is above the head's
pub head_below : (item : Item) (items : List Item) → ItemsRise (item ∷ items) → (other : Item) → Contains items other → KeyBelow item.0 other.0
head_below item [] rise other c = absurd (in_nothing other c)
head_below item (next ∷ items) rise other c = elim (in_cons next other items c) [
  | inl here ↦ subst (λ (o : Item). KeyBelow item.0 o.0) here rise.0
  | inr there ↦ KeyBelow_trans item.0 next.0 other.0 rise.0 (head_below next items rise.1 other there)
]

pub rise_tail : (item : Item) (items : List Item) → ItemsRise (item ∷ items) → ItemsRise items
rise_tail item [] rise = tt
rise_tail item (next ∷ items) rise = rise.1

-- a key isn't below itself
pub not_below_itself : (a b : Key) → a ≡ b → KeyBelow a b → ⊥
not_below_itself a b e below = let no : Less ≡ Equal = sym below ∙ equal_from_test (key_cmp a b) (key_eq-same a b e) in absurd cc

pub item_once : (items : List Item) (one two : Item) → ItemsRise items → Contains items one → Contains items two → one.0 ≡ two.0 → one ≡ two
item_once [] one two rise a b e = absurd (in_nothing one a)
item_once (item ∷ items) one two rise a b e = elim (in_cons item one items a) [
  | inl here ↦ elim (in_cons item two items b) [
    | inl also ↦ sym here ∙ also
    | inr there ↦ absurd (not_below_itself item.0 two.0 (ap (λ (o : Item). o.0) here ∙ e) (head_below item items rise two there))
  ]
  | inr there ↦ elim (in_cons item two items b) [
    | inl here ↦ absurd (not_below_itself item.0 one.0 (ap (λ (o : Item). o.0) here ∙ sym e) (head_below item items rise one there))
    | inr also ↦ item_once items one two (rise_tail item items rise) there also e
  ]
]

-- one key has one item
pub key_once : (items : List Item) (key : Key) (one two : List ℕ) → ItemsRise items → Contains items (key, one) → Contains items (key, two) → one ≡ two
key_once items key one two rise a b = ap (λ (o : Item). o.1) (item_once items (key, one) (key, two) rise a b (λ i. key))
