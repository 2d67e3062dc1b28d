-- The first fault of a tree's items, by rising keys, and when all items are right.
use Rattle.std.specs.Prelude.{◌≡◌, ◌⊎◌, ◌++◌, ◌≤◌, ◌<◌, ◌+◌, ◌==◌, ◌&&◌, ℕ, zero, suc, Bool, true, false, List, [], ◌∷◌, nat_lt, Contains, Option, Some, None, Result, Ok, Err, if◌then◌else◌}
use Rattle.std.specs.List.{flat_map}
use Rattle.blk_base.specs.declared.fault.ItemFault.{ItemFault}
use Rattle.blk_base.specs.declared.fault.ItemFault.TheVariants.{Overlap}
use Rattle.blk_base.specs.declared.key.Addr.{Addr}
use Rattle.blk_base.specs.declared.key.Key.{Key}
use Rattle.blk_base.specs.Bytes.{IsBytes}
use Rattle.blk_base.specs.ItemFaults.{IsSpelled, item_fault}
use Rattle.blk_base.specs.Keys.{KeyFits, extent_data}
use Rattle.blk_base.specs.Leaf.{Item}
use Rattle.block_table.specs.declared.tree.Tree.{Tree}
use Rattle.block_table.specs.Table.{Table}
use Rattle.tree_range.specs.Shape.{leaf_items, node_pointers, tree_items}
use Rattle.volume_image.specs.Subvolume.{extent_len, make_key}
use Rattle.tree_check.specs.declared.fault.TreeFault.{TreeFault}
use Rattle.tree_check.specs.declared.item.FileEnd.{FileEnd}

-- ---- one item

-- where an extent ends in its file ("EXTENT_DATA"); an item of another type has no end
abbrev pub end_of : Item → Option FileEnd
end_of item = if item.0.kind == extent_data then Some (record { file = item.0.objectid; end = item.0.offset + extent_len item.0 item.1 }) else None

-- an extent that begins below this end, in the same file
abbrev pub is_below_end : Option FileEnd → Key → Bool
is_below_end None key = false
is_below_end (Some before) key = (key.kind == extent_data) && (key.objectid == before.file) && nat_lt key.offset before.end

abbrev pub or_overlap : Option ItemFault → Bool → Option ItemFault
or_overlap (Some fault) below = Some fault
or_overlap None true = Some Overlap
or_overlap None false = None

-- the fault of an item behind one with this end: that of its own grammar first, and then Overlap (own)
abbrev pub fault_behind : Option FileEnd → Item → Option ItemFault
fault_behind before item = or_overlap (item_fault item.0 item.1) (is_below_end before item.0)

-- ---- all items, from left to right

abbrev pub unless_fault : {A : Type 0} → Addr → Key → Option ItemFault → Result A TreeFault → Result A TreeFault
unless_fault at key None rest = rest
unless_fault at key (Some fault) rest = Err (TreeFault.Item at key fault)

-- the end of the last of the items of the leaf at a byte address, or their first fault; the item before them has this end (own)
abbrev pub leaf_checked : Addr → Option FileEnd → List Item → Result (Option FileEnd) TreeFault
leaf_checked at before [] = Ok before
leaf_checked at before (item ∷ items) = unless_fault at item.0 (fault_behind before item) (leaf_checked at (end_of item) items)

abbrev pub and_then : {A B : Type 0} → Result A TreeFault → (A → Result B TreeFault) → Result B TreeFault
and_then (Ok x) next = next x
and_then (Err fault) next = Err fault

-- the same of the leaves at these byte addresses, one behind the other
abbrev pub leaves_checked : Table → Option FileEnd → List ℕ → Result (Option FileEnd) TreeFault
leaves_checked table before [] = Ok before
leaves_checked table before (at ∷ leaves) =
    and_then (leaf_checked (record { 0 = at }) before (leaf_items table at)) (λ after. leaves_checked table after leaves)

-- the byte addresses of the leaves below a block on this level, from left to right
abbrev pub leaves_below : ℕ → Table → ℕ → List ℕ
leaves_below zero table at = at ∷ []
leaves_below (suc level) table at = flat_map (λ pointer. leaves_below level table pointer.at) (node_pointers table at)

-- what the check of a tree's items answers: its first faulty item by rising keys, with the byte address of the leaf that has it
abbrev pub items_answer : Table → Tree → Result (Unit {0}) TreeFault
items_answer table tree = and_then (leaves_checked table None (leaves_below tree.level table tree.root.0)) (λ after. Ok tt)

-- ---- when all are right

-- the items' data are bytes
abbrev pub AreBytes : List Item → Type 0
AreBytes items = (key : Key) (bytes : List ℕ) → Contains items (key, bytes) → IsBytes bytes

-- the items' keys fit their fields ("Key")
abbrev pub HaveKeys : List Item → Type 0
HaveKeys items = (key : Key) (bytes : List ℕ) → Contains items (key, bytes) → KeyFits key

-- each item is spelled by the grammar of its key's type, and no two extents of a file cover one byte
pub record AreRight (items : List Item) : Type 0 where
  pub spelled : (key : Key) (bytes : List ℕ) → Contains items (key, bytes) → IsSpelled key bytes
  pub apart : (ino one two : ℕ) (first second : List ℕ) → Contains items (make_key ino extent_data one, first)
      → Contains items (make_key ino extent_data two, second) → one < two → one + extent_len (make_key ino extent_data one) first ≤ two

-- ---- which fault is the first

-- an extent in front of an item of the same file covers the item's first byte
pub record IsOverlapped (before : List Item) (item : Item) : Type 0 where
  pub kind : item.0.kind ≡ extent_data
  pub offset : ℕ
  pub bytes : List ℕ
  pub there : Contains before (make_key item.0.objectid extent_data offset, bytes)
  pub covers : item.0.offset < offset + extent_len (make_key item.0.objectid extent_data offset) bytes

-- the fault is one by the grammar of the key's type; or there is none, and the item begins below the end of an extent in front of it
abbrev pub IsFaultOf : List Item → Item → ItemFault → Type 0
IsFaultOf before item why = (item_fault item.0 item.1 ≡ Some why) ⊎ ((item_fault item.0 item.1 ≡ None) × (why ≡ Overlap) × IsOverlapped before item)

-- The fault is that of a tree's first item that isn't right, and names a leaf of the tree that has the item.
pub record IsFirstFault (table : Table) (tree : Tree) (fault : TreeFault) : Type 0 where
  pub at : Addr
  pub item : Item
  pub why : ItemFault
  pub is : fault ≡ TreeFault.Item at item.0 why
  pub before : List Item
  pub after : List Item
  pub split : tree_items table tree ≡ before ++ item ∷ after
  pub right : AreRight before
  pub faulty : IsFaultOf before item why
  pub leaf : Contains (leaves_below tree.level table tree.root.0) at.0
  pub held : Contains (leaf_items table at.0) item
