-- The children of a node around the one where a key belongs.
use Rattle.std.proofs.Common.{◌≡◌, List, [], ◌∷◌, ◌++◌, true, refl, ap, subst, Some, ◌⊎◌, inl, inr}
use Rattle.std.specs.Prelude.{All}
use Rattle.std.specs.List.{flat_map}
use Rattle.std.proofs.lemmas.List.Elements.{All-head, All-nil, All-same, All-tail, All-weaker}
use Rattle.blk_base.specs.declared.key.Key.{Key}
use Rattle.blk_base.specs.Keys.{KeyBelow, keys_rise}
use Rattle.blk_base.specs.Leaf.{Item, Pointer}
use Rattle.blk_base.specs.Trees.{ItemsRise, first_key}
use Rattle.leaf_view.specs.KeyOrder.{KeyBelow_trans}
use Rattle.leaf_view.specs.Search.{pointer_keys}
use Rattle.leaf_edit.specs.Rises.{rise_cons}
use Rattle.tree_range.specs.Between.{AreAbove, AreBelow}
use Rattle.tree_range.proofs.Rise.{All-right, above_from_first, first_append, first_is, rise_before, rise_head, rise_right}

-- each child's first key is its pointer's
abbrev pub HaveFirsts : (Pointer → List Item) → List Pointer → Type 0
HaveFirsts f pointers = All (λ (pointer : Pointer). first_key (f pointer) ≡ Some pointer.key) pointers

-- the items in front of a child are below its key, and those behind it are above
around : (f : Pointer → List Item) (l : List Item) (p : Pointer) (r : List Item) → first_key (f p) ≡ Some p.key → ItemsRise (l ++ (f p ++ r)) → AreBelow p.key l × AreAbove p.key r
around f l p r first rise =
    let h = first_is (f p) p.key first in
    let y = h.first in
    let shown : ItemsRise (l ++ y ∷ (h.others ++ r)) = subst (λ (m : List Item). ItemsRise (l ++ (m ++ r))) h.items_are rise in
    (subst (λ (k : Key). AreBelow k l) h.key_is (rise_before l y (h.others ++ r) shown), subst (λ (k : Key). AreAbove k r) h.key_is (All-right (λ (item : Item). KeyBelow y.0 item.0) h.others r (rise_head y (h.others ++ r) (rise_right l (y ∷ (h.others ++ r)) shown))))

pub below_child : (f : Pointer → List Item) (lefts : List Pointer) (p : Pointer) (r : List Item) (key : Key) → first_key (f p) ≡ Some p.key → ItemsRise (flat_map f lefts ++ (f p ++ r)) → (lefts ≡ []) ⊎ ((p.key ≡ key) ⊎ KeyBelow p.key key) → AreBelow key (flat_map f lefts)
below_child f lefts p r key first rise low =
    let under : AreBelow p.key (flat_map f lefts) = (around f (flat_map f lefts) p r first rise).0 in
    elim low [
      | inl none ↦ All-same (λ (item : Item). KeyBelow item.0 key) (flat_map f lefts) [] (ap (flat_map f) none) (All-nil (λ (item : Item). KeyBelow item.0 key))
      | inr some ↦ elim some [
        | inl e ↦ subst (λ (k : Key). AreBelow k (flat_map f lefts)) e under
        | inr k ↦ All-weaker (λ (item : Item). KeyBelow item.0 p.key) (λ (item : Item). KeyBelow item.0 key) (λ item j. KeyBelow_trans item.0 p.key key j k) (flat_map f lefts) under
      ]
    ]

above_rights : (f : Pointer → List Item) (rights : List Pointer) (key : Key) → HaveFirsts f rights → ItemsRise (flat_map f rights) → All (λ (right : Pointer). KeyBelow key right.key) rights → AreAbove key (flat_map f rights)
above_rights f [] key firsts rise high = All-nil (λ (item : Item). KeyBelow key item.0)
above_rights f (p ∷ ps) key firsts rise high =
    above_from_first key p.key (f p ++ flat_map f ps) rise (first_append (f p) (flat_map f ps) p.key (All-head (λ (q : Pointer). first_key (f q) ≡ Some q.key) p ps firsts)) (All-head (λ (q : Pointer). KeyBelow key q.key) p ps high)

pub above_child : (f : Pointer → List Item) (l : List Item) (p : Pointer) (rights : List Pointer) (key : Key) → first_key (f p) ≡ Some p.key → HaveFirsts f rights → ItemsRise (l ++ (f p ++ flat_map f rights)) → (p.key ≡ key) ⊎ All (λ (right : Pointer). KeyBelow key right.key) rights
    → AreAbove key (flat_map f rights)
above_child f l p rights key first firsts rise high = elim high [
  | inl e ↦ subst (λ (k : Key). AreAbove k (flat_map f rights)) e (around f l p (flat_map f rights) first rise).1
  | inr above ↦ above_rights f rights key firsts (rise_right (f p) (flat_map f rights) (rise_right l (f p ++ flat_map f rights) rise)) above
]

-- where the items rise, the pointers' keys do
pub pointers_rise : (f : Pointer → List Item) (pointers : List Pointer) → HaveFirsts f pointers → ItemsRise (flat_map f pointers) → keys_rise (pointer_keys pointers) ≡ true
pointers_rise f [] firsts rise = refl
pointers_rise f (p ∷ []) firsts rise = refl
pointers_rise f (p ∷ q ∷ ps) firsts rise =
    let Q : Pointer → Type 0 = λ (pointer : Pointer). first_key (f pointer) ≡ Some pointer.key in
    let rest : HaveFirsts f (q ∷ ps) = All-tail Q p (q ∷ ps) firsts in
    let above : AreAbove p.key (flat_map f (q ∷ ps)) = (around f [] p (flat_map f (q ∷ ps)) (All-head Q p (q ∷ ps) firsts) rise).1 in
    let next = first_is (f q) q.key (All-head Q q ps rest) in
    let shown : AreAbove p.key (next.first ∷ (next.others ++ flat_map f ps)) = subst (λ (m : List Item). AreAbove p.key (m ++ flat_map f ps)) next.items_are above in
    let lower : KeyBelow p.key q.key = subst (λ (k : Key). KeyBelow p.key k) next.key_is (All-head (λ (item : Item). KeyBelow p.key item.0) next.first (next.others ++ flat_map f ps) shown) in
    rise_cons p.key q.key (pointer_keys ps) lower (pointers_rise f (q ∷ ps) rest (rise_right (f p) (flat_map f (q ∷ ps)) rise))
