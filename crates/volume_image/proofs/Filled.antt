-- How many items a tree has at least, and a tree of two leaves.
use Rattle.std.proofs.Common.{◌≡◌, ◌≤◌, ◌+◌, ◌*◌, ◌^◌, ◌++◌, ℕ, zero, suc, true, false, List, [], ◌∷◌, length, Some, refl, sym, ap, subst, ◌∙◌, arith, append-nil, length-append}
use Rattle.std.proofs.Math.Nat.{pow-suc, mul-le-mul_right}
use Rattle.blk_base.specs.declared.key.Key.{Key}
use Rattle.blk_base.specs.declared.key.Want.{Want}
use Rattle.blk_base.specs.Address.{IsAllowed}
use Rattle.blk_base.specs.Leaf.{Item, Pointer, IsLeaf, IsNode}
use Rattle.volume_image.specs.Tree.{Image, IsTree, IsSubtree, AreChildren, NoneTwice, ItemsRise, block_of, child_want, first_key}

-- ---- how many items a tree has at least

children_many : (Tree : Pointer → List Item → List ℕ → Type 0) (least : ℕ) → ((pointer : Pointer) (part : List Item) (near : List ℕ) → Tree pointer part near → least ≤ length part)
    → (pointers : List Pointer) (items : List Item) (reach : List ℕ) → AreChildren Tree pointers items reach → length pointers * least ≤ length items
children_many Tree least each [] items reach shape = omega arith
children_many Tree least each (pointer ∷ pointers) items reach (part, rest, near, far, here, there, is_items, is_reach) =
    let first = each pointer part near here in
    let others = children_many Tree least each pointers rest far there in
    let size : length items ≡ length part + length rest = ap length is_items ∙ length-append part rest in
    omega arith

below_root : (level : ℕ) (image : Image) (blocks : ℕ) (want : Want) (items : List Item) (reach : List ℕ) → IsSubtree level image blocks false want items reach → 30 ^ level ≤ length items
below_root zero image blocks want items reach shape = shape.2
below_root (suc level) image blocks want items reach (pointers, below, allowed, node, least, children, is_reach) =
    let many = children_many (λ pointer part near. IsSubtree level image blocks false (child_want want pointer level) part near × (first_key part ≡ Some pointer.key)) (30 ^ level)
    (λ pointer part near is. below_root level image blocks (child_want want pointer level) part near is.0) pointers items below children in
    let whole : 30 * 30 ^ level ≤ length pointers * 30 ^ level = mul-le-mul_right (30 ^ level) least in
    rw (pow-suc 30 level) (omega arith)

at_root : (level : ℕ) (image : Image) (blocks : ℕ) (want : Want) (items : List Item) (reach : List ℕ) → IsSubtree (suc level) image blocks true want items reach → 2 * 30 ^ level ≤ length items
at_root level image blocks want items reach (pointers, below, allowed, node, least, children, is_reach) =
    let many = children_many (λ pointer part near. IsSubtree level image blocks false (child_want want pointer level) part near × (first_key part ≡ Some pointer.key)) (30 ^ level)
    (λ pointer part near is. below_root level image blocks (child_want want pointer level) part near is.0) pointers items below children in
    let whole : 2 * 30 ^ level ≤ length pointers * 30 ^ level = mul-le-mul_right (30 ^ level) least in
    omega arith

pub tall_tree_is_wide : (image : Image) (blocks : ℕ) (want : Want) (items : List Item) (reach : List ℕ) → IsTree image blocks want items reach → (level : ℕ) → want.level ≡ suc level → 2 * 30 ^ level ≤ length items
tall_tree_is_wide image blocks want items reach tree level is =
    at_root level image blocks want items reach (subst (λ (n : ℕ). IsSubtree n image blocks true want items reach) is tree.shape)

-- ---- two leaves

pub two_leaves : (image : Image) (blocks : ℕ) (want : Want) (one two : Pointer) (first second : List Item) → want.level ≡ 1
    → IsAllowed blocks want.at.0 → IsAllowed blocks one.at → IsAllowed blocks two.at
    → IsNode want (block_of image want.at.0) (one ∷ two ∷ [])
    → IsLeaf (record { fsid = want.fsid; at = record { 0 = one.at }; generation = one.generation; owner = want.owner; level = 0 }) (block_of image one.at) first → first_key first ≡ Some one.key
    → IsLeaf (record { fsid = want.fsid; at = record { 0 = two.at }; generation = two.generation; owner = want.owner; level = 0 }) (block_of image two.at) second → first_key second ≡ Some two.key
    → ItemsRise (first ++ second) → NoneTwice (want.at.0 ∷ one.at ∷ two.at ∷ [])
    → IsTree image blocks want (first ++ second) (want.at.0 ∷ one.at ∷ two.at ∷ [])
two_leaves image blocks want one two first second level allowed allowed_one allowed_two node leaf_one key_one leaf_two key_two rise once = record {
  low = omega arith;
  shape = subst (λ (n : ℕ). IsSubtree n image blocks true want (first ++ second) (want.at.0 ∷ one.at ∷ two.at ∷ [])) (sym level) (
    one ∷ two ∷ [],
    one.at ∷ two.at ∷ [],
    allowed,
    node,
    omega arith,
    (
      first,
      second,
      one.at ∷ [],
      two.at ∷ [],
      ((allowed_one, leaf_one, some first one.key key_one, refl), key_one),
      (second, [], two.at ∷ [], [], ((allowed_two, leaf_two, some second two.key key_two, refl), key_two), (refl, refl), sym (append-nil second), refl),
      refl,
      refl,
    ),
    refl,
  );
  order = rise;
  once = once;
}
  where
    some : (items : List Item) (key : Key) → first_key items ≡ Some key → 1 ≤ length items
    some [] key h = absurd cc
    some (item ∷ items) key h = omega arith
