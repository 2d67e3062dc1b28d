-- What every tree has, wherever its blocks stand: items in order, blocks apart, and nodes over children.
use Rattle.std.specs.Prelude.{◌≡◌, ℕ, Bool, List, [], ◌∷◌, ◌++◌, Option, Some, None, Contains, if◌then◌else◌}
use Rattle.blk_base.specs.declared.key.Addr.{Addr}
use Rattle.blk_base.specs.declared.key.Key.{Key}
use Rattle.blk_base.specs.declared.key.Want.{Want}
use Rattle.blk_base.specs.declared.limits.TheConstants.{LEAST_POINTERS, LEAST_ROOT_POINTERS}
use Rattle.blk_base.specs.Keys.{KeyBelow}
use Rattle.blk_base.specs.Leaf.{Item, Pointer}

-- a block, and the byte address where it is to stand
abbrev pub AtBlock : Type 0
AtBlock = Addr × List ℕ

-- no address stands twice
abbrev pub NoneTwice : List ℕ → Type 0
NoneTwice [] = Unit {0}
NoneTwice (at ∷ others) = (Contains others at → ⊥) × NoneTwice others

-- no address stands in both
abbrev pub AreApart : List ℕ → List ℕ → Type 0
AreApart one two = (at : ℕ) → Contains one at → Contains two at → ⊥

-- ---- items

-- the key of the first item, where there is one
abbrev pub first_key : List Item → Option Key
first_key [] = None
first_key (item ∷ items) = Some item.0

-- each key is below the next ("Leaf Node")
abbrev pub ItemsRise : List Item → Type 0
ItemsRise [] = Unit {0}
ItemsRise (item ∷ []) = Unit {0}
ItemsRise (item ∷ next ∷ items) = KeyBelow item.0 next.0 × ItemsRise (next ∷ items)

-- ---- nodes and their children ("Internal Node")

-- the key of the first pointer, where there is one
abbrev pub first_pointer_key : List Pointer → Option Key
first_pointer_key [] = None
first_pointer_key (pointer ∷ pointers) = Some pointer.key

-- a child is read with its pointer's address and generation, the same owner, and one level less
abbrev pub child_want : Want → Pointer → ℕ → Want
child_want want pointer level = record want { at = record { 0 = pointer.at }; generation = pointer.generation; level = level }

-- the least items of a leaf and the least pointers of a node, where it is the root and where it isn't (own)
abbrev pub least_items : Bool → ℕ
least_items is_root = if is_root then 0 else 1

abbrev pub least_pointers : Bool → ℕ
least_pointers is_root = if is_root then LEAST_ROOT_POINTERS else LEAST_POINTERS

-- the children's items, one list behind the other, and all that they reach
abbrev pub AreChildren : (Pointer → List Item → List ℕ → Type 0) → List Pointer → List Item → List ℕ → Type 0
AreChildren child [] items reach = (items ≡ []) × (reach ≡ [])
AreChildren child (pointer ∷ pointers) items reach =
    (part : List Item) × (rest : List Item) × (near : List ℕ) × (far : List ℕ)
    × child pointer part near × AreChildren child pointers rest far × (items ≡ part ++ rest) × (reach ≡ near ++ far)
