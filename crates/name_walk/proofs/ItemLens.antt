-- The lengths of the items of names.
use Rattle.std.proofs.Common.{◌≡◌, ◌≢◌, ℕ, not, ◌&&◌, List, [], ◌∷◌, ◌++◌, length, Some, None, filter, map, nat_eq, refl, ap}
use Rattle.std.specs.List.{sum_by}
use Rattle.blk_base.specs.Crc.{name_hash_of, extref_hash_of}
use Rattle.blk_base.specs.Keys.{dir_item, inode_extref, inode_ref}
use Rattle.block_table.specs.declared.tree.Tree.{Tree}
use Rattle.block_table.specs.Table.{Table}
use Rattle.flat_model.specs.Lengths.{dir_item_length, entry_length, extref_item_length, extref_length, ref_item_length, ref_length}
use Rattle.flat_model.specs.Volume.{Subvolume}
use Rattle.tree_range.specs.Between.{data_under}
use Rattle.tree_range.specs.Shape.{tree_items}
use Rattle.volume_image.specs.Subvolume.{entry_of, extref_of, make_key, own_refs, ref_of}
use Rattle.volume_image.proofs.ItemLengths.{dir_item_has_length, extref_item_has_length, ref_item_has_length}
use Rattle.table_volume.specs.Gives.{GivesSubvolume, data_in}
use Rattle.name_walk.proofs.Reading.{extrefs_nowhere, hashed_nowhere, in_items, refs_nowhere}

none_mapped : {X Y : Type 0} (f : X → Y) (xs : List X) → map f xs ≡ [] → xs ≡ []
none_mapped f [] is = refl
none_mapped f (x ∷ xs) is = absurd cc

behind : {X : Type 0} (front back : List X) → front ++ back ≡ [] → back ≡ []
behind [] back is = is
behind (x ∷ front) back is = absurd cc

module _ (table : Table) (tree : Tree) (sub : Subvolume) (gives : GivesSubvolume table tree sub) where
  pub dir_item_long : (dir hash : ℕ) (bytes : List ℕ) → data_under (make_key dir dir_item hash) (tree_items table tree) ≡ Some bytes → length bytes ≡ dir_item_length sub.names dir hash
  dir_item_long dir hash bytes found = dir_item_has_length sub (data_in table) (tree_items table tree) gives.items dir hash bytes (in_items table tree sub gives (make_key dir dir_item hash) bytes found)

  pub no_dir_item : (dir hash : ℕ) → data_under (make_key dir dir_item hash) (tree_items table tree) ≡ None → dir_item_length sub.names dir hash ≡ 0
  unfolding dir_item_length
  no_dir_item dir hash none = ap (sum_by entry_length) (none_mapped (entry_of sub) (filter (λ name. nat_eq name.dir dir && nat_eq (name_hash_of name.bytes) hash) sub.names) (hashed_nowhere table tree sub gives dir hash none))

  pub ref_item_long : (ino dir : ℕ) (bytes : List ℕ) → ino ≢ 256 → data_under (make_key ino inode_ref dir) (tree_items table tree) ≡ Some bytes → length bytes ≡ ref_item_length sub.names ino dir
  ref_item_long ino dir bytes other found = ref_item_has_length sub (data_in table) (tree_items table tree) gives.items ino dir bytes other (in_items table tree sub gives (make_key ino inode_ref dir) bytes found)

  pub no_ref_item : (ino dir : ℕ) → data_under (make_key ino inode_ref dir) (tree_items table tree) ≡ None → ref_item_length sub.names ino dir ≡ 0
  unfolding ref_item_length
  no_ref_item ino dir none = ap (sum_by ref_length) (none_mapped ref_of (filter (λ name. name.near && (nat_eq name.ino ino && nat_eq name.dir dir)) sub.names)
      (behind (own_refs ino dir) (map ref_of (filter (λ name. name.near && (nat_eq name.ino ino && nat_eq name.dir dir)) sub.names)) (refs_nowhere table tree sub gives ino dir none)))

  pub extref_item_long : (ino hash : ℕ) (bytes : List ℕ) → data_under (make_key ino inode_extref hash) (tree_items table tree) ≡ Some bytes → length bytes ≡ extref_item_length sub.names ino hash
  extref_item_long ino hash bytes found = extref_item_has_length sub (data_in table) (tree_items table tree) gives.items ino hash bytes (in_items table tree sub gives (make_key ino inode_extref hash) bytes found)

  pub no_extref_item : (ino hash : ℕ) → data_under (make_key ino inode_extref hash) (tree_items table tree) ≡ None → extref_item_length sub.names ino hash ≡ 0
  unfolding extref_item_length
  no_extref_item ino hash none = ap (sum_by extref_length) (none_mapped extref_of (filter (λ name. not name.near && (nat_eq name.ino ino && nat_eq (extref_hash_of name.dir name.bytes) hash)) sub.names) (extrefs_nowhere table tree sub gives ino hash none))
