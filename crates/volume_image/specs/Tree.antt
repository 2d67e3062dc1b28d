-- The tree of an image: which sorted list of items it has, which blocks it reaches, and the first fault of a walk over it.
use Rattle.std.specs.Prelude.{◌≡◌, ◌≤◌, ◌/◌, ℕ, zero, suc, Bool, true, false, ◌&&◌, not, nat_lt, ◌==◌, List, [], ◌∷◌, ◌++◌, length, Option, Some, None, Result, Ok, Err, Contains, slice_index_or, if◌then◌else◌}
use Rattle.std.specs.List.{list_any}
use Rattle.std.specs.Ordering.{is_eq}
use Rattle.blk_base.specs.declared.format.TheConstants.{BLOCK_SIZE, MAX_LEVEL}
use Rattle.blk_base.specs.declared.key.Key.{Key}
use Rattle.blk_base.specs.declared.key.Want.{Want}
use Rattle.blk_base.specs.declared.fault.BlockFault.{BlockFault}
use Rattle.blk_base.specs.declared.fault.BlockFault.TheVariants as block_faults
use Rattle.volume_image.specs.declared.fault.LoadFault.{LoadFault}
use Rattle.volume_image.specs.declared.fault.LoadFault.TheVariants.{Block, Outside, Twice, Level, Thin}
pub use Rattle.blk_base.specs.Bytes.{Image}
use Rattle.blk_base.specs.Address.{IsAllowed, is_allowed}
use Rattle.blk_base.specs.Keys.{KeyBelow, key_cmp, key_below}
use Rattle.blk_base.specs.Leaf.{Item, Pointer, IsLeaf, IsNode, leaf_of, node_of}
pub use Rattle.blk_base.specs.Trees.{NoneTwice, AreApart, ItemsRise, first_key, first_pointer_key, child_want, least_items, least_pointers, AreChildren}

-- the bytes of the block at a byte address; none outside the image
abbrev pub block_of : Image → ℕ → List ℕ
block_of image at = slice_index_or image (at / BLOCK_SIZE) []

-- A block on this level and those below it: a leaf holds the items; a node's children are subtrees whose first keys are the pointers' keys.
abbrev pub IsSubtree : ℕ → Image → ℕ → Bool → Want → List Item → List ℕ → Type 0
IsSubtree zero image blocks is_root want items reach =
    IsAllowed blocks want.at.0 × IsLeaf want (block_of image want.at.0) items × (least_items is_root ≤ length items) × (reach ≡ want.at.0 ∷ [])
IsSubtree (suc level) image blocks is_root want items reach =
    (pointers : List Pointer) × (below : List ℕ)
    × IsAllowed blocks want.at.0 × IsNode want (block_of image want.at.0) pointers × (least_pointers is_root ≤ length pointers)
    × AreChildren (λ pointer part near. IsSubtree level image blocks false (child_want want pointer level) part near × (first_key part ≡ Some pointer.key)) pointers items below
    × (reach ≡ want.at.0 ∷ below)

-- In a volume of so many blocks, the tree whose root is this one has these items in order and reaches these byte addresses.
pub record IsTree (image : Image) (blocks : ℕ) (want : Want) (items : List Item) (reach : List ℕ) : Type 0 where
  pub low : want.level ≤ MAX_LEVEL
  pub shape : IsSubtree want.level image blocks true want items reach
  pub order : ItemsRise items
  pub once : NoneTwice reach

-- ---- the walk, from left to right, a parent before its children

-- the items and the addresses that a walk has met so far
pub record Walked : Type 0 where
  pub items : List Item
  pub reached : List ℕ

abbrev pub nothing_walked : List ℕ → Walked
nothing_walked reached = record { items = []; reached = reached }

infixl 10 ◌>>=◌
abbrev pub ◌>>=◌ : {A B : Type 0} → Result A LoadFault → (A → Result B LoadFault) → Result B LoadFault
(Ok x) >>= f = f x
(Err fault) >>= f = Err fault

-- a block's own fault is the walk's at that address
abbrev pub at_block : {A : Type 0} → ℕ → Result A BlockFault → Result A LoadFault
at_block at (Ok x) = Ok x
at_block at (Err fault) = Err (Block (record { 0 = at }) fault)

abbrev pub was_reached : ℕ → List ℕ → Bool
was_reached at reached = list_any (λ other. other == at) reached

abbrev pub key_eq : Key → Key → Bool
key_eq a b = is_eq (key_cmp a b)

-- the key is above the last of the items
abbrev pub is_above_last : List Item → Key → Bool
is_above_last [] key = true
is_above_last (item ∷ []) key = key_below item.0 key
is_above_last (item ∷ next ∷ items) key = is_above_last (next ∷ items) key

-- a block's first key is its pointer's, and above every key met before
abbrev pub is_first_key : Option Key → List Item → Option Key → Bool
is_first_key None before first = true
is_first_key (Some key) before None = false
is_first_key (Some key) before (Some first) = key_eq first key && is_above_last before first

-- the pointers of a node, from left to right
abbrev pub walk_children : (Pointer → Walked → Result Walked LoadFault) → List Pointer → Walked → Result Walked LoadFault
walk_children child [] before = Ok before
walk_children child (pointer ∷ pointers) before = child pointer before >>= walk_children child pointers

-- the least fill, and then the first key
abbrev pub is_full_and_first : {A : Type 0} → Want → ℕ → ℕ → Option Key → List Item → Option Key → Result A LoadFault → Result A LoadFault
is_full_and_first want least count under before first rest =
    if nat_lt count least then Err (Thin want.at) else
    if not (is_first_key under before first) then Err (Block want.at block_faults.Order) else rest

abbrev pub is_top : Option Key → Bool
is_top None = true
is_top (Some key) = false

-- the checks of an address before its block is looked at
abbrev pub entered : {A : Type 0} → ℕ → Want → Walked → Result A LoadFault → Result A LoadFault
entered blocks want before rest =
    if not (is_allowed blocks want.at.0) then Err (Outside want.at) else
    if was_reached want.at.0 before.reached then Err (Twice want.at) else
    if nat_lt MAX_LEVEL want.level then Err (Level want.at) else rest

-- what is met at this block and below, after what was met before; `under` is the key of the pointer to it, if it is no root
abbrev pub walk_from : ℕ → Image → ℕ → Option Key → Want → Walked → Result Walked LoadFault
walk_from zero image blocks under want before = entered blocks want before (do
  items ← at_block want.at.0 (leaf_of want (block_of image want.at.0))
  is_full_and_first want (least_items (is_top under)) (length items) under before.items (first_key items)
      (Ok (record { items = before.items ++ items; reached = before.reached ++ want.at.0 ∷ [] })))
walk_from (suc below) image blocks under want before = entered blocks want before (do
  pointers ← at_block want.at.0 (node_of want (block_of image want.at.0))
  is_full_and_first want (least_pointers (is_top under)) (length pointers) under before.items (first_pointer_key pointers)
      (walk_children (λ pointer met. walk_from below image blocks (Some pointer.key) (child_want want pointer below) met) pointers
      (record { items = before.items; reached = before.reached ++ want.at.0 ∷ [] })))

-- The items of a tree and the addresses reached, those from before in front; or the first fault of the walk.
unfoldable pub tree_of : Image → ℕ → Want → List ℕ → Result Walked LoadFault
tree_of image blocks want reached = walk_from want.level image blocks None want (nothing_walked reached)

-- a walk met the tree: its items, and its reach apart from and behind what was reached before
pub record HasWalked (image : Image) (blocks : ℕ) (want : Want) (before : List ℕ) (walked : Walked) : Type 0 where
  pub reach : List ℕ
  pub tree : IsTree image blocks want walked.items reach
  pub apart : AreApart before reach
  pub reached : walked.reached ≡ before ++ reach
