-- How names apart from a subvolume are seen, and how many bytes of an item they take.
use Rattle.std.specs.Prelude.{◌≡◌, ℕ, ◌&&◌, not, max, cond, List, [], ◌∷◌, length, IsTrue, nat_eq}
use Rattle.std.specs.FinMap.{insert}
use Rattle.blk_base.specs.Crc.{name_hash_of, extref_hash_of}
use Rattle.flat_sub.specs.declared.list.NameList.{NameList}
use Rattle.flat_sub.specs.declared.list.Item.{Item}
use Rattle.flat_sub.specs.declared.list.Item.TheVariants as items
use Rattle.flat_model.specs.Names.{FlatName, is_name_set}
use Rattle.flat_model.specs.Volume.{RunSub, last_index_in}
use Rattle.flat_model.specs.Lengths.{ref_length, extref_length, entry_length}
use Rattle.flat_sub.specs.View.{names_view}

-- the names with their marks
abbrev pub list_view : NameList → List FlatName
list_view list = names_view list.names.items list.near.items

-- the names are a set in order, each with its mark
pub record IsList (list : NameList) : Type 0 where
  pub marked : length list.near.items ≡ length list.names.items
  pub in_order : IsTrue (is_name_set (list_view list))

-- the bytes that a name has in an item ("INODE_REF", "INODE_EXTREF", "DIR_ITEM")
abbrev pub share_of : Item → FlatName → ℕ
share_of (items.Ref ino dir) name = cond (name.near && (nat_eq name.ino ino && nat_eq name.dir dir)) (ref_length name) 0
share_of (items.Extref ino hash) name = cond (not name.near && (nat_eq name.ino ino && nat_eq (extref_hash_of name.dir name.bytes) hash)) (extref_length name) 0
share_of (items.Entry dir hash) name = cond (nat_eq name.dir dir && nat_eq (name_hash_of name.bytes) hash) (entry_length name) 0

-- a subvolume in its run with these names in place of its own, and an index counted as one that a directory has had
abbrev pub settled : RunSub → List FlatName → ℕ → ℕ → RunSub
settled run names dir index = record {
  sub = record { inodes = run.sub.inodes; names = names };
  numbers = record run.numbers { last_index = max run.numbers.last_index index; dir_indexes = insert run.numbers.dir_indexes dir (max (last_index_in run.numbers dir) index) };
}

-- the last name of a path, and none of the root directory's
abbrev pub last_of : List (List ℕ) → List ℕ
last_of [] = []
last_of (name ∷ []) = name
last_of (name ∷ next ∷ path) = last_of (next ∷ path)
