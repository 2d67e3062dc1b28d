-- The items of a tree of an image are of bytes, and of at most as many as a leaf holds.
use Rattle.std.proofs.Common.{◌≡◌, ◌≤◌, ◌<◌, ◌+◌, ◌*◌, ◌/◌, ◌++◌, ◌⊎◌, ℕ, zero, suc, min, List, [], ◌∷◌, length, take, drop, slice_get, Contains, All, Some, None, Option, refl, sym, ap, subst, ◌∙◌, arith, inl, inr}
use Rattle.std.proofs.lemmas.List.Elements.{All-take, All-drop, All-nil, All-get_or, Contains-append_cases}
use Rattle.std.proofs.lemmas.List.{length-take, get_or_past}
use Rattle.std.proofs.lemmas.Bool.{cases_lt}
use Rattle.blk_base.specs.declared.key.Want.{Want}
use Rattle.blk_base.specs.Bytes.{IsBytes, IsBlock, IsImage, bytes_at}
use Rattle.blk_base.specs.Leaf.{Item, Pointer, IsLeaf, item_of, item_size, item_offset}
use Rattle.flat_model.specs.Lengths.{most_item_bytes}
use Rattle.volume_image.specs.Tree.{Image, IsTree, IsSubtree, AreChildren, block_of, child_want, first_key}
use Rattle.volume_image.proofs.Lists.{in_nothing}
use Rattle.image_faults.specs.Lists.{get_at}

-- an item of bytes that fits into a leaf
pub record Fits (item : Item) : Type 0 where
  pub bytes : IsBytes item.1
  pub short : length item.1 ≤ most_item_bytes

abbrev AreSmall : List ℕ → Type 0
AreSmall = All (λ byte. byte < 256)

small_bytes : (bytes : List ℕ) → AreSmall bytes → IsBytes bytes
small_bytes bytes all i = elim (cases_lt i (length bytes)) [
  | inl inside ↦ All-get_or (λ byte. byte < 256) bytes i 0 inside all
  | inr past ↦ let zero_there = get_or_past bytes i 0 past in omega arith
]

-- the block at an address is of bytes, or nothing
block_small : (image : Image) (at : ℕ) → IsImage image → AreSmall (block_of image at)
block_small image at blocks = elim (cases_lt (at / 4096) (length image)) [
  | inl inside ↦ (All-get_or IsBlock image (at / 4096) [] inside blocks).range
  | inr past ↦ subst AreSmall (sym (get_or_past image (at / 4096) [] past)) (All-nil (λ byte. byte < 256))
]

leaf_fits : (want : Want) (bytes : List ℕ) (items : List Item) → AreSmall bytes → IsLeaf want bytes items → (item : Item) → Contains items item → Fits item
leaf_fits want bytes items small leaf item c =
    let i = c.0 in
    let below = c.1 in
    let is : item ≡ item_of bytes i = let both : Some item ≡ Some (item_of bytes i) = sym (get_at items item c) ∙ leaf.body.each i below in cc in
    let size = item_size bytes i in
    let behind = leaf.body.behind_headers i below in
    let inside = leaf.body.inside i below in
    let long = length-take size (drop (101 + item_offset bytes i) bytes) in
    subst Fits (sym is) (record {
      bytes = small_bytes (bytes_at size bytes (101 + item_offset bytes i)) (All-take (λ byte. byte < 256) size (drop (101 + item_offset bytes i) bytes) (All-drop (λ byte. byte < 256) (101 + item_offset bytes i) bytes small));
      short = omega arith;
    })

children_fit : (child : Pointer → List Item → List ℕ → Type 0) → ((pointer : Pointer) (items : List Item) (reach : List ℕ) → child pointer items reach → (item : Item) → Contains items item → Fits item)
    → (pointers : List Pointer) (items : List Item) (reach : List ℕ) → AreChildren child pointers items reach → (item : Item) → Contains items item → Fits item
children_fit child each [] items reach are item c = absurd (in_nothing item (subst (λ (xs : List Item). Contains xs item) are.0 c))
children_fit child each (pointer ∷ pointers) items reach (part, rest, near, far, here, there, is_items, is_reach) item c =
    elim (Contains-append_cases part rest item (subst (λ (xs : List Item). Contains xs item) is_items c)) [
      | inl front ↦ each pointer part near here item front
      | inr back ↦ children_fit child each pointers rest far there item back
    ]

subtree_fits : (level : ℕ) (image : Image) (blocks : ℕ) (is_root : Rattle.std.proofs.Common.Bool) (want : Want) (items : List Item) (reach : List ℕ) → IsImage image → IsSubtree level image blocks is_root want items reach → (item : Item) → Contains items item → Fits item
subtree_fits zero image blocks is_root want items reach are tree item c = leaf_fits want (block_of image want.at.0) items (block_small image want.at.0 are) tree.1 item c
subtree_fits (suc level) image blocks is_root want items reach are (pointers, below, allowed, node, least, kids, is_reach) item c =
    children_fit (λ pointer part near. IsSubtree level image blocks Rattle.std.proofs.Common.false (child_want want pointer level) part near × (first_key part ≡ Some pointer.key))
    (λ pointer part near child other d. subtree_fits level image blocks Rattle.std.proofs.Common.false (child_want want pointer level) part near are child.0 other d) pointers items below kids item c

pub tree_fits : (image : Image) (blocks : ℕ) (want : Want) (items : List Item) (reach : List ℕ) → IsImage image → IsTree image blocks want items reach → (item : Item) → Contains items item → Fits item
tree_fits image blocks want items reach are tree item c = subtree_fits want.level image blocks Rattle.std.proofs.Common.true want items reach are tree.shape item c
