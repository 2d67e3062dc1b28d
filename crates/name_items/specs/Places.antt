-- Where an entry lies among the bytes of its item, and what is left once it is cut out.
use Rattle.std.specs.Prelude.{◌≡◌, ◌≢◌, ◌+◌, ℕ, List, ◌∷◌, ◌++◌, length, take, drop, true, false, Contains}
use Rattle.std.specs.List.{flat_map}
use Rattle.blk_base.specs.declared.key.Key.{Key}
use Rattle.blk_base.specs.Entries.{EntryValue, ExtRefValue, IsExtRefs, IsRefs, RefValue, extref_bytes, ref_bytes}
use Rattle.blk_base.specs.Leaf.{Item}
use Rattle.block_table.specs.declared.tree.Tree.{Tree}
use Rattle.block_table.specs.Table.{Table}
use Rattle.tree_range.specs.Between.{data_under}
use Rattle.tree_range.specs.Shape.{IsTree, tree_items, tree_reach}
use Rattle.tree_frame.specs.Frame.{AreCurrent, TakesAtMost}
use Rattle.flat_model.specs.Names.{FlatName}
use Rattle.item_edit.specs.ItemEdit.{IsItemEdit, bytes_under, item_bytes}
use Rattle.name_items.specs.Names.{ref_key}

-- an entry that lies from one byte to another (own)
pub record IsPlaced {E : Type 0} (spell : E → List ℕ) (found : List E) (entry : E) (from to : ℕ) : Type 0 where
  pub lefts : List E
  pub rights : List E
  pub parts : found ≡ lefts ++ (entry ∷ rights)
  pub from_is : from ≡ length (flat_map spell lefts)
  pub to_is : to ≡ from + length (spell entry)

-- an entry that is wanted lies there (own)
pub record HasPlace {E : Type 0} (spell : E → List ℕ) (Wanted : E → Type 0) (found : List E) (from to : ℕ) : Type 0 where
  pub entry : E
  pub wanted : Wanted entry
  pub placed : IsPlaced spell found entry from to

-- an entry that is wanted is cut out of the item under a key, which goes where it was the only one (own)
pub record CutsEntry {E : Type 0} (spell : E → List ℕ) (Wanted : E → Type 0) (found : List E) (old new : Table) (before after : Tree) (key : Key) : Type 0 where
  pub from : ℕ
  pub to : ℕ
  pub place : HasPlace spell Wanted found from to
  pub edit : IsItemEdit old new before after key (item_bytes (take from (bytes_under key (tree_items old before)) ++ drop to (bytes_under key (tree_items old before))))

-- an entry with this name, and a far one of this directory
abbrev pub IsRefNamed : List ℕ → RefValue → Type 0
IsRefNamed name ref = ref.name ≡ name

abbrev pub IsFarNamed : ℕ → List ℕ → ExtRefValue → Type 0
IsFarNamed parent name ref = (ref.parent ≡ parent) × (ref.name ≡ name)

abbrev pub IsEntryNamed : List ℕ → EntryValue → Type 0
IsEntryNamed name entry = entry.name ≡ name

-- the item of a name's inode has its entry ("INODE_REF", "INODE_EXTREF")
pub record HasRef (items : List Item) (name : FlatName) : Type 0 where
  pub near : name.near ≡ true → (found : List RefValue) × IsRefs (ref_key name) (bytes_under (ref_key name) items) found × (entry : RefValue) × Contains found entry × IsRefNamed name.bytes entry
  pub far : name.near ≡ false → (found : List ExtRefValue) × IsExtRefs (bytes_under (ref_key name) items) found × (entry : ExtRefValue) × Contains found entry × IsFarNamed name.dir name.bytes entry

-- a name's entry is cut out of the item of its inode (own)
pub record CutsRef (old new : Table) (before after : Tree) (name : FlatName) : Type 0 where
  pub near : (found : List RefValue) → name.near ≡ true → IsRefs (ref_key name) (bytes_under (ref_key name) (tree_items old before)) found
      → CutsEntry ref_bytes (IsRefNamed name.bytes) found old new before after (ref_key name)
  pub far : (found : List ExtRefValue) → name.near ≡ false → IsExtRefs (bytes_under (ref_key name) (tree_items old before)) found
      → CutsEntry extref_bytes (IsFarNamed name.dir name.bytes) found old new before after (ref_key name)
  pub tree : IsTree new after
  pub current : AreCurrent new (tree_reach new after)
  pub taken : TakesAtMost old new 17
  pub others : (other : Key) → other ≢ ref_key name → data_under other (tree_items new after) ≡ data_under other (tree_items old before)
