-- Trees: one list and one reach, the blocks of the reach alone, allowed addresses.
use Rattle.std.proofs.Common.{◌≡◌, ◌++◌, ℕ, zero, suc, Bool, true, false, List, [], ◌∷◌, All, Some, sym, ap, ap₂, subst, ◌∙◌}
use Rattle.std.proofs.lemmas.List.Elements.{All-nil, All-cons, All-append, All-head, All-tail}
use Rattle.blk_base.specs.declared.key.Want.{Want}
use Rattle.blk_base.specs.Address.{IsAllowed}
use Rattle.blk_base.specs.Leaf.{Item, Pointer, IsLeaf, IsNode}
use Rattle.format_laws.specs.Blocks.{IsLeafBody-same, IsNodeBody-same}
use Rattle.volume_image.proofs.Lists.{all_parts}
use Rattle.volume_image.specs.Tree.{NoneTwice, Image, IsTree, IsSubtree, AreChildren, block_of, child_want, first_key}

-- a relation between pointers, items and reaches that says which child a pointer has
abbrev pub Child : Type 1
Child = Pointer → List Item → List ℕ → Type 0

-- ---- one list and one reach

children_same : (child : Child) → ((pointer : Pointer) (a b : List Item) (r s : List ℕ) → child pointer a r → child pointer b s → (a ≡ b) × (r ≡ s))
    → (pointers : List Pointer) (a b : List Item) (r s : List ℕ) → AreChildren child pointers a r → AreChildren child pointers b s → (a ≡ b) × (r ≡ s)
children_same child one [] a b r s x y = (x.0 ∙ sym y.0, x.1 ∙ sym y.1)
children_same child one (pointer ∷ pointers) a b r s (part, rest, near, far, here, there, items, reach) (part', rest', near', far', here', there', items', reach') =
    let first = one pointer part part' near near' here here' in
    let others = children_same child one pointers rest rest' far far' there there' in
    (items ∙ ap₂ (λ (p q : List Item). p ++ q) first.0 others.0 ∙ sym items', reach ∙ ap₂ (λ (p q : List ℕ). p ++ q) first.1 others.1 ∙ sym reach')

pub subtree_same : (level : ℕ) (image : Image) (blocks : ℕ) (is_root : Bool) (want : Want) (a b : List Item) (r s : List ℕ)
    → IsSubtree level image blocks is_root want a r → IsSubtree level image blocks is_root want b s → (a ≡ b) × (r ≡ s)
subtree_same zero image blocks is_root want a b r s x y = (IsLeafBody-same _ a b x.1.body y.1.body, x.3 ∙ sym y.3)
subtree_same (suc level) image blocks is_root want a b r s (pointers, below, allowed, node, least, children, reach) (pointers', below', allowed', node', least', children', reach') =
    let same = IsNodeBody-same _ pointers' pointers node'.body node.body in
    let one = children_same (λ pointer part near. IsSubtree level image blocks false (child_want want pointer level) part near × (first_key part ≡ Some pointer.key))
    (λ pointer p q m n h k. subtree_same level image blocks false (child_want want pointer level) p q m n h.0 k.0)
    pointers a b below below' children (rw same at children') in
    (one.0, reach ∙ ap (λ (t : List ℕ). want.at.0 ∷ t) one.1 ∙ sym reach')

pub tree_is_one_lem : (image : Image) (blocks : ℕ) (want : Want) (a b : List Item) (r s : List ℕ) → IsTree image blocks want a r → IsTree image blocks want b s → (a ≡ b) × (r ≡ s)
tree_is_one_lem image blocks want a b r s x y = subtree_same want.level image blocks true want a b r s x.shape y.shape

-- ---- the blocks of the reach alone

-- two images have the same block at each of these addresses
abbrev pub SameBlocks : Image → Image → List ℕ → Type 0
SameBlocks one two reach = All (λ at. block_of one at ≡ block_of two at) reach

children_local : (one two : Image) (child child' : Child) → ((pointer : Pointer) (a : List Item) (r : List ℕ) → child pointer a r → SameBlocks one two r → child' pointer a r)
    → (pointers : List Pointer) (a : List Item) (r : List ℕ) → AreChildren child pointers a r → SameBlocks one two r → AreChildren child' pointers a r
children_local one two child child' step [] a r x same = x
children_local one two child child' step (pointer ∷ pointers) a r (part, rest, near, far, here, there, items, reach) same =
    let both = all_parts (λ at. block_of one at ≡ block_of two at) near far (rw reach at same) in
    (part, rest, near, far, step pointer part near here both.0, children_local one two child child' step pointers rest far there both.1, items, reach)

pub subtree_local : (level : ℕ) (one two : Image) (blocks : ℕ) (is_root : Bool) (want : Want) (a : List Item) (r : List ℕ)
    → IsSubtree level one blocks is_root want a r → SameBlocks one two r → IsSubtree level two blocks is_root want a r
subtree_local zero one two blocks is_root want a r x same =
    let here = All-head (λ at. block_of one at ≡ block_of two at) want.at.0 [] (rw x.3 at same) in
    (x.0, subst (λ (bytes : List ℕ). IsLeaf want bytes a) here x.1, x.2, x.3)
subtree_local (suc level) one two blocks is_root want a r (pointers, below, allowed, node, least, children, reach) same =
    let all = rw reach at same in
    let here = All-head (λ at. block_of one at ≡ block_of two at) want.at.0 below all in
    let others = All-tail (λ at. block_of one at ≡ block_of two at) want.at.0 below all in (
      pointers,
      below,
      allowed,
      subst (λ (bytes : List ℕ). IsNode want bytes pointers) here node,
      least,
      children_local one two (λ pointer part near. IsSubtree level one blocks false (child_want want pointer level) part near × (first_key part ≡ Some pointer.key))
          (λ pointer part near. IsSubtree level two blocks false (child_want want pointer level) part near × (first_key part ≡ Some pointer.key))
          (λ pointer p n h s. (subtree_local level one two blocks false (child_want want pointer level) p n h.0 s, h.1)) pointers a below children others,
      reach,
    )

pub tree_local : (one two : Image) (blocks : ℕ) (want : Want) (items : List Item) (reach : List ℕ) → IsTree one blocks want items reach → SameBlocks one two reach → IsTree two blocks want items reach
tree_local one two blocks want items reach x same = record { low = x.low; shape = subtree_local want.level one two blocks true want items reach x.shape same; order = x.order; once = x.once }

-- ---- allowed addresses

children_allowed : (blocks : ℕ) (child : Child) → ((pointer : Pointer) (a : List Item) (r : List ℕ) → child pointer a r → All (IsAllowed blocks) r)
    → (pointers : List Pointer) (a : List Item) (r : List ℕ) → AreChildren child pointers a r → All (IsAllowed blocks) r
children_allowed blocks child step [] a r x = rw x.1 (All-nil (IsAllowed blocks))
children_allowed blocks child step (pointer ∷ pointers) a r (part, rest, near, far, here, there, items, reach) =
    rw reach (All-append (IsAllowed blocks) near far (step pointer part near here) (children_allowed blocks child step pointers rest far there))

pub subtree_allowed : (level : ℕ) (image : Image) (blocks : ℕ) (is_root : Bool) (want : Want) (a : List Item) (r : List ℕ) → IsSubtree level image blocks is_root want a r → All (IsAllowed blocks) r
subtree_allowed zero image blocks is_root want a r x = rw x.3 (All-cons (IsAllowed blocks) want.at.0 [] x.0 (All-nil (IsAllowed blocks)))
subtree_allowed (suc level) image blocks is_root want a r (pointers, below, allowed, node, least, children, reach) =
    rw reach (All-cons (IsAllowed blocks) want.at.0 below allowed
    (children_allowed blocks (λ pointer part near. IsSubtree level image blocks false (child_want want pointer level) part near × (first_key part ≡ Some pointer.key))
    (λ pointer p n h. subtree_allowed level image blocks false (child_want want pointer level) p n h.0) pointers a below children))

pub tree_allowed : (image : Image) (blocks : ℕ) (want : Want) (items : List Item) (reach : List ℕ) → IsTree image blocks want items reach → All (IsAllowed blocks) reach
tree_allowed image blocks want items reach x = subtree_allowed want.level image blocks true want items reach x.shape

pub tree_none_twice : (image : Image) (blocks : ℕ) (want : Want) (items : List Item) (reach : List ℕ) → IsTree image blocks want items reach → NoneTwice reach
tree_none_twice image blocks want items reach x = x.once
