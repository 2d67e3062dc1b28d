-- The leaf that is named for an item has it.
use Rattle.std.proofs.Common.{◌≡◌, ◌++◌, ℕ, zero, suc, Bool, true, false, cond, List, [], ◌∷◌, Contains, Option, Some, None, Result, Ok, Err, unwrap_or, refl, sym, ap, subst, ◌∙◌, inl, inr}
use Rattle.std.specs.List.{list_any}
use Rattle.std.proofs.lemmas.List.Elements.{Contains-append_left, Contains-append_right, Contains-append_cases}
use Rattle.blk_base.specs.declared.key.Key.{Key}
use Rattle.blk_base.specs.declared.key.Want.{Want}
use Rattle.blk_base.specs.Leaf.{Item, Pointer, IsLeaf, leaf_of, node_of}
use Rattle.format_laws.specs.Blocks.{leaf_of-Ok, node_of-Ok}
use Rattle.volume_image.specs.Tree.{Image, IsTree, IsSubtree, AreChildren, block_of, child_want, first_key, key_eq}
use Rattle.volume_image.proofs.Lists.{in_nothing, in_cons}
use Rattle.volume_image.proofs.Reaches.{head_in, tail_in}
use Rattle.volume_image.proofs.Rising.{key_same, key_eq-same}
use Rattle.image_faults.proofs.Rising.{item_once}
use Rattle.image_order.specs.FirstFault.{first_of, first_given, read_or_none, leaf_below, leaf_with}
use Rattle.image_order.specs.InLeaf.{IsInLeafAt}

has_key : Key → List Item → Bool
has_key key items = list_any (λ (item : Item). key_eq item.0 key) items

any_gives : (key : Key) (items : List Item) → list_any (λ (item : Item). key_eq item.0 key) items ≡ true → (item : Item) × Contains items item × (item.0 ≡ key)
any_gives key [] e = absurd cc
any_gives key (item ∷ items) e = go (key_eq item.0 key) refl e (λ f. any_gives key items f)
  where
    go : (b : Bool) → key_eq item.0 key ≡ b → Rattle.std.proofs.Common.◌||◌ b (list_any (λ (other : Item). key_eq other.0 key) items) ≡ true
        → (list_any (λ (other : Item). key_eq other.0 key) items ≡ true → (found : Item) × Contains items found × (found.0 ≡ key)) → (found : Item) × Contains (item ∷ items) found × (found.0 ≡ key)
    go true t e later = (item, head_in item items, key_same item.0 key t)
    go false t e later = let rest = later e in (rest.0, tail_in item rest.0 items rest.1, rest.2)

any_has : (key : Key) (items : List Item) (item : Item) → Contains items item → item.0 ≡ key → list_any (λ (other : Item). key_eq other.0 key) items ≡ true
any_has key [] item c e = absurd (in_nothing item c)
any_has key (first ∷ items) item c e = elim (in_cons first item items c) [
  | inl here ↦ ap (λ b. Rattle.std.proofs.Common.◌||◌ b (list_any (λ (other : Item). key_eq other.0 key) items)) (key_eq-same first.0 key (ap (λ (o : Item). o.0) here ∙ e))
  | inr there ↦ go (key_eq first.0 key) (any_has key items item there e)
]
  where
    go : (b : Bool) → list_any (λ (other : Item). key_eq other.0 key) items ≡ true → Rattle.std.proofs.Common.◌||◌ b (list_any (λ (other : Item). key_eq other.0 key) items) ≡ true
    go true later = refl
    go false later = later

-- a leaf below a block: what it has is among the items there
pub record LeafBelow (image : Image) (key : Key) (items : List Item) (reach : List ℕ) (at : ℕ) : Type 0 where
  pub want : Want
  pub part : List Item
  pub place : want.at.0 ≡ at
  pub reached : Contains reach at
  pub leaf : IsLeaf want (block_of image at) part
  pub item : Item
  pub has : Contains part item
  pub key_is : item.0 ≡ key
  pub inside : Contains items item

wider : (image : Image) (key : Key) (items more : List Item) (reach far : List ℕ) (at : ℕ) → ((x : Item) → Contains items x → Contains more x) → ((x : ℕ) → Contains reach x → Contains far x) → LeafBelow image key items reach at → LeafBelow image key more far at
wider image key items more reach far at f g b =
    record { want = b.want; part = b.part; place = b.place; reached = g at b.reached; leaf = b.leaf; item = b.item; has = b.has; key_is = b.key_is; inside = f b.item b.inside }

below_children : (image : Image) (key : Key) (child : Pointer → List Item → List ℕ → Type 0) (give : Pointer → Option ℕ)
    → ((pointer : Pointer) (items : List Item) (reach : List ℕ) (at : ℕ) → child pointer items reach → give pointer ≡ Some at → LeafBelow image key items reach at)
    → (pointers : List Pointer) (items : List Item) (reach : List ℕ) (at : ℕ) → AreChildren child pointers items reach → first_given give pointers ≡ Some at → LeafBelow image key items reach at
below_children image key child give each [] items reach at are e = absurd cc
below_children image key child give each (pointer ∷ pointers) items reach at (part, rest, near, far, here, there, is_items, is_reach) e = go (give pointer) refl e (λ f. below_children image key child give each pointers rest far at there f)
  where
    go : (o : Option ℕ) → give pointer ≡ o → first_of o (first_given give pointers) ≡ Some at → (first_given give pointers ≡ Some at → LeafBelow image key rest far at) → LeafBelow image key items reach at
    go (Some found) g e later =
        let same : found ≡ at = cc in
        wider image key part items near reach at (λ x c. subst (λ (xs : List Item). Contains xs x) (sym is_items) (Contains-append_left part rest x c)) (λ x c. subst (λ (xs : List ℕ). Contains xs x) (sym is_reach) (Contains-append_left near far x c))
        (each pointer part near at here (g ∙ ap Some same))
    go None g e later =
        wider image key rest items far reach at (λ x c. subst (λ (xs : List Item). Contains xs x) (sym is_items) (Contains-append_right part rest x c)) (λ x c. subst (λ (xs : List ℕ). Contains xs x) (sym is_reach) (Contains-append_right near far x c))
        (later e)

-- a leaf that is named has the key
below : (level : ℕ) (image : Image) (blocks : ℕ) (is_root : Bool) (want : Want) (key : Key) (items : List Item) (reach : List ℕ) (at : ℕ) → IsSubtree level image blocks is_root want items reach → leaf_below level image want key ≡ Some at → LeafBelow image key items reach at
below zero image blocks is_root want key items reach at (allowed, leaf, least, is_reach) e =
    let read : read_or_none (leaf_of want (block_of image want.at.0)) ≡ items = ap read_or_none (leaf_of-Ok want (block_of image want.at.0) items leaf) in
    go (list_any (λ (item : Item). key_eq item.0 key) items) refl
    (ap (λ (xs : List Item). cond (list_any (λ (item : Item). key_eq item.0 key) xs) (Some want.at.0) None) (sym read) ∙ e)
  where
    go : (b : Bool) → list_any (λ (item : Item). key_eq item.0 key) items ≡ b → cond b (Some want.at.0) None ≡ Some at → LeafBelow image key items reach at
    go false t e = absurd cc
    go true t e =
        let place : want.at.0 ≡ at = cc in
        let found = any_gives key items t in
        record {
          want = want;
          part = items;
          place = place;
          reached = subst (λ (xs : List ℕ). Contains xs at) (sym is_reach) (subst (λ (x : ℕ). Contains (want.at.0 ∷ []) x) place (head_in want.at.0 []));
          leaf = subst (λ (x : ℕ). IsLeaf want (block_of image x) items) place leaf;
          item = found.0;
          has = found.1;
          key_is = found.2;
          inside = found.1;
        }
below (suc level) image blocks is_root want key items reach at (pointers, lower, allowed, node, least, kids, is_reach) e =
    let read : read_or_none (node_of want (block_of image want.at.0)) ≡ pointers = ap read_or_none (node_of-Ok want (block_of image want.at.0) pointers node) in
    let give : Pointer → Option ℕ = λ pointer. leaf_below level image (child_want want pointer level) key in
    wider image key items items lower reach at (λ x c. c) (λ x c. subst (λ (xs : List ℕ). Contains xs x) (sym is_reach) (tail_in want.at.0 x lower c))
    (below_children image key (λ pointer part near. IsSubtree level image blocks false (child_want want pointer level) part near × (first_key part ≡ Some pointer.key)) give
    (λ pointer part near place child g. below level image blocks false (child_want want pointer level) key part near place child.0 g) pointers items lower at kids
    (ap (first_given give) (sym read) ∙ e))

-- ---- a leaf is named

named_child : (key : Key) (child : Pointer → List Item → List ℕ → Type 0) (give : Pointer → Option ℕ) (item : Item) → ((pointer : Pointer) (items : List Item) (reach : List ℕ) → child pointer items reach → Contains items item → (at : ℕ) × (give pointer ≡ Some at))
    → (pointers : List Pointer) (items : List Item) (reach : List ℕ) → AreChildren child pointers items reach → Contains items item → (at : ℕ) × (first_given give pointers ≡ Some at)
named_child key child give item each [] items reach are c = absurd (in_nothing item (subst (λ (xs : List Item). Contains xs item) are.0 c))
named_child key child give item each (pointer ∷ pointers) items reach (part, rest, near, far, here, there, is_items, is_reach) c = go (give pointer) refl (Contains-append_cases part rest item (subst (λ (xs : List Item). Contains xs item) is_items c)) (λ d. named_child key child give item each pointers rest far there d)
  where
    go : (o : Option ℕ) → give pointer ≡ o → Rattle.std.proofs.Common.◌⊎◌ (Contains part item) (Contains rest item) → (Contains rest item → (at : ℕ) × (first_given give pointers ≡ Some at)) → (at : ℕ) × (first_of (give pointer) (first_given give pointers) ≡ Some at)
    go (Some found) g side later = (found, ap (λ o. first_of o (first_given give pointers)) g)
    go None g (inl front) later = let one = each pointer part near here front in absurd (let no : None ≡ Some one.0 = sym g ∙ one.1 in cc)
    go None g (inr back) later = let found = later back in (found.0, ap (λ o. first_of o (first_given give pointers)) g ∙ found.1)

named : (level : ℕ) (image : Image) (blocks : ℕ) (is_root : Bool) (want : Want) (key : Key) (item : Item) (items : List Item) (reach : List ℕ) → item.0 ≡ key → IsSubtree level image blocks is_root want items reach → Contains items item
    → (at : ℕ) × (leaf_below level image want key ≡ Some at)
named zero image blocks is_root want key item items reach same (allowed, leaf, least, is_reach) c =
    let read : read_or_none (leaf_of want (block_of image want.at.0)) ≡ items = ap read_or_none (leaf_of-Ok want (block_of image want.at.0) items leaf) in
    (want.at.0, ap (λ (xs : List Item). cond (list_any (λ (x : Item). key_eq x.0 key) xs) (Some want.at.0) None) read ∙ ap (λ (b : Bool). cond b (Some want.at.0) None) (any_has key items item c same))
named (suc level) image blocks is_root want key item items reach same (pointers, lower, allowed, node, least, kids, is_reach) c =
    let read : read_or_none (node_of want (block_of image want.at.0)) ≡ pointers = ap read_or_none (node_of-Ok want (block_of image want.at.0) pointers node) in
    let give : Pointer → Option ℕ = λ pointer. leaf_below level image (child_want want pointer level) key in
    let found = named_child key (λ pointer part near. IsSubtree level image blocks false (child_want want pointer level) part near × (first_key part ≡ Some pointer.key)) give item
    (λ pointer part near child d. named level image blocks false (child_want want pointer level) key item part near same child.0 d) pointers items lower kids c in
    (found.0, ap (first_given give) read ∙ found.1)

pub in_leaf : (image : Image) (blocks : ℕ) (want : Want) (items : List Item) (reach : List ℕ) (item : Item) → IsTree image blocks want items reach → Contains items item → IsInLeafAt image reach item (leaf_with image want item.0)
unfolding leaf_with
in_leaf image blocks want items reach item tree c =
    let at = named want.level image blocks true want item.0 item items reach refl tree.shape c in
    let found = below want.level image blocks true want item.0 items reach at.0 tree.shape at.1 in
    let same = item_once items found.item item tree.order found.inside c found.key_is in
    subst (IsInLeafAt image reach item) (sym (ap (λ o. unwrap_or o want.at.0) at.1))
    (record { want = found.want; items = found.part; place = found.place; reached = found.reached; leaf = found.leaf; has = subst (λ (x : Item). Contains found.part x) same found.has })
