-- Slots of directories by the map that has them, and what names say of them.
use Rattle.std.specs.Prelude.{◌≡◌, ◌<◌, ◌⊎◌, ◌&&◌, ℕ, Bool, false, List, Option, Some, nat_eq, bytes_eq, slice_get, cond, Contains, IsSome}
use Rattle.std.specs.Option.{is_none}
use Rattle.std.specs.BTreeMap.{get}
use Rattle.std.specs.Borrow.{Bor}
use Rattle.std.specs.Cmp.Lexicographic.{slice_cmp}
use Rattle.std.specs.Ordering.{nat_cmp, ordering_then}
use Rattle.std.specs.declared.cmp.Ordering.{Ordering}
use Rattle.blk_base.specs.Leaf.{Item}
use Rattle.blk_base.specs.declared.key.Ino.{Ino}
use Rattle.flat_model.specs.Names.{FlatName}
use Rattle.flat_model.specs.Volume.{Subvolume}
use Rattle.image_faults.specs.Faulty.{IsRightRef}
use Rattle.coherent_slots.specs.declared.slots.Slots.{Slots}

-- the order of slots: by directory, and then by bytes
abbrev pub slot_cmp : ℕ × Bor (List ℕ) → ℕ × Bor (List ℕ) → Ordering
slot_cmp a b = ordering_then (nat_cmp a.0 b.0) (slice_cmp nat_cmp a.1.now b.1.now)

-- the index in a slot, where a name is in it
abbrev pub index_at : Slots → ℕ → List ℕ → Option ℕ
index_at slots dir bytes = get slot_cmp slots.indexes (dir, record { ref_ptr = (0, 0); now = bytes })

-- the name is in this slot
abbrev pub is_slot : FlatName → ℕ → List ℕ → Bool
is_slot name dir bytes = nat_eq name.dir dir && bytes_eq name.bytes bytes

-- ---- one name

-- the slot of the name has its index, and the others stay
abbrev pub IsPut : Slots → Slots → FlatName → Type 0
IsPut old new name = (dir : ℕ) (bytes : List ℕ) → index_at new dir bytes ≡ cond (is_slot name dir bytes) (Some name.index) (index_at old dir bytes)

-- the name is right and was put into its slot, and was alone in it or not; or it isn't right, and all slots stay
pub data IsAdded (items : List Item) (sub : Subvolume) (old new : Slots) (name : FlatName) (alone : Bool) : Type 0 where
  Put : (right : IsRightRef items sub name) (was : alone ≡ is_none (index_at old name.dir name.bytes)) (put : IsPut old new name) → IsAdded items sub old new name alone
  Left : (wrong : IsRightRef items sub name → ⊥) (was : alone ≡ false) (same : (dir : ℕ) (bytes : List ℕ) → index_at new dir bytes ≡ index_at old dir bytes) → IsAdded items sub old new name alone

-- ---- all names

-- a right name is in the slot, at the index that the slot has
pub record IsInSlot (items : List Item) (sub : Subvolume) (names : List FlatName) (dir index : ℕ) (bytes : List ℕ) : Type 0 where
  pub name : FlatName
  pub there : Contains names name
  pub right : IsRightRef items sub name
  pub dir_is : name.dir ≡ dir
  pub bytes_is : name.bytes ≡ bytes
  pub index_is : name.index ≡ index

-- the slots have the right ones of these names, and no others
pub record AreSlots (items : List Item) (sub : Subvolume) (names : List FlatName) (slots : Slots) : Type 0 where
  pub sound : (dir index : ℕ) (bytes : List ℕ) → index_at slots dir bytes ≡ Some index → IsInSlot items sub names dir index bytes
  pub complete : (name : FlatName) → Contains names name → IsRightRef items sub name → IsSome (index_at slots name.dir name.bytes)

-- two right names stand in one slot
pub record AreTwice (items : List Item) (sub : Subvolume) (names : List FlatName) (j k : ℕ) (one two : FlatName) : Type 0 where
  pub before : j < k
  pub first : slice_get names j ≡ Some one
  pub second : slice_get names k ≡ Some two
  pub right : IsRightRef items sub one
  pub right_too : IsRightRef items sub two
  pub dir : one.dir ≡ two.dir
  pub bytes : one.bytes ≡ two.bytes

-- a name of the inode isn't right, or one is in a slot that another one in front of it has
pub data HasBadName (items : List Item) (sub : Subvolume) (names : List FlatName) (ino : ℕ) : Type 0 where
  Wrong : (name : FlatName) (there : Contains names name) (is : name.ino ≡ ino) (wrong : IsRightRef items sub name → ⊥) → HasBadName items sub names ino
  Twice : (j k : ℕ) (one two : FlatName) (is : two.ino ≡ ino) (twice : AreTwice items sub names j k one two) → HasBadName items sub names ino

-- each name of the inode is right, and none is in a slot that another one in front of it has
pub record HasGoodNames (items : List Item) (sub : Subvolume) (names : List FlatName) (ino : ℕ) : Type 0 where
  pub right : (name : FlatName) → Contains names name → name.ino ≡ ino → IsRightRef items sub name
  pub once : (j k : ℕ) (one two : FlatName) → two.ino ≡ ino → AreTwice items sub names j k one two → ⊥

-- the number is below this one, where there is one
abbrev pub IsBelow : ℕ → Option Ino → Type 0
IsBelow ino least = (found : Ino) → least ≡ Some found → ino < found.0

-- the least inode with a bad name
pub record IsLeastBad (items : List Item) (sub : Subvolume) (names : List FlatName) (least : Option Ino) : Type 0 where
  pub bad : (found : Ino) → least ≡ Some found → HasBadName items sub names found.0
  pub good : (ino : ℕ) → IsBelow ino least → HasGoodNames items sub names ino

-- the lesser of a number that may be there and this one
abbrev pub IsLowered : Option Ino → Ino → Option Ino → Type 0
IsLowered least ino next = ((next ≡ least) ⊎ (next ≡ Some ino)) × ((number : ℕ) → IsBelow number next → IsBelow number least × (number < ino.0))
