-- What a call finds that adds a name or takes one out: the items of both inodes, and room in the items of its entries.
use Rattle.std.proofs.Common.{◌≡◌, ◌≢◌, ◌∙◌, ◌+◌, ◌≤◌, ℕ, Bool, true, false, List, [], length, Option, Some, None, refl, sym, ap, arith}
use Rattle.std.specs.FinMap.{get}
use Rattle.std.specs.Option.{unwrap_or}
use Rattle.blk_base.specs.declared.key.Key.{Key}
use Rattle.blk_base.specs.Crc.{extref_hash_of, name_hash_of}
use Rattle.blk_base.specs.Items.{InodeValue, inode_value}
use Rattle.blk_base.specs.Keys.{dir_item, inode_extref, inode_item, inode_ref}
use Rattle.blk_base.specs.Leaf.{Item}
use Rattle.block_table.specs.declared.tree.Tree.{Tree}
use Rattle.block_table.specs.Table.{Table}
use Rattle.tree_range.specs.Between.{data_under}
use Rattle.tree_range.specs.Shape.{tree_items}
use Rattle.tree_range.proofs.Found.{contains_under}
use Rattle.flat_model.specs.Lengths.{dir_item_length, extref_item_length, ref_item_length}
use Rattle.flat_model.specs.Names.{FlatName, links_of}
use Rattle.flat_model.specs.Records.{DirInode, FileInode, InodeRecord, LinkInode}
use Rattle.flat_model.specs.Volume.{Subvolume}
use Rattle.flat_model.proofs.Maps.{some_same}
use Rattle.volume_image.specs.Subvolume.{make_key, mode_of, nlink_of, size_of}
use Rattle.volume_image.proofs.ItemLengths.{dir_item_has_length, extref_item_has_length, ref_item_has_length}
use Rattle.table_volume.specs.Gives.{GivesSubvolume, data_in}
use Rattle.table_volume.proofs.Keyed.{keys_hold}
use Rattle.item_edit.specs.ItemEdit.{HasInode, bytes_under}
use Rattle.name_items.specs.Names.{MayAddName, MayRemoveName, hashed_key, ref_entry, ref_key}
use Rattle.name_items.proofs.Inodes.{InodeThere, inode_before}

module _ (table : Table) (tree : Tree) (s : Subvolume) (gives : GivesSubvolume table tree s) where
  -- an inode that is there has its item
  pub record HasItem (ino : ℕ) (inode : InodeRecord) : Type 0 where
    pub value : InodeValue
    pub has : HasInode (tree_items table tree) ino value
    pub mode : value.mode ≡ mode_of inode
    pub size : value.size ≡ size_of s ino inode
    pub nlink : value.nlink ≡ nlink_of s ino inode

  pub has_item : (ino : ℕ) (inode : InodeRecord) → get s.inodes ino ≡ Some inode → HasItem ino inode
  has_item ino inode there =
      let key : Key = make_key ino inode_item 0 in
      let b : InodeThere s ino inode (data_under key (tree_items table tree)) = inode_before s (data_in table) ino inode (data_under key (tree_items table tree)) (keys_hold (tree_items table tree) (data_in table) s gives.tree_in.order gives.items key) there in
      record {
        value = b.right.value;
        has = record { bytes = b.bytes; there = b.is; spelled = b.right.spelled };
        mode = b.right.mode;
        size = b.right.size;
        nlink = b.right.nlink;
      }

  -- what stands under a key, where all that may stand there has this length
  under_length : (o : Option (List ℕ)) (n : ℕ) → ((bytes : List ℕ) → o ≡ Some bytes → length bytes ≡ n) → length (unwrap_or o []) ≤ n
  under_length None n h = omega arith
  under_length (Some bytes) n h = omega (arith, h bytes refl)

  pub hashed_under : (dir hash : ℕ) → length (bytes_under (make_key dir dir_item hash) (tree_items table tree)) ≤ dir_item_length s.names dir hash
  hashed_under dir hash =
      under_length (data_under (make_key dir dir_item hash) (tree_items table tree)) (dir_item_length s.names dir hash) (λ bytes is. dir_item_has_length s (data_in table) (tree_items table tree) gives.items dir hash bytes (contains_under (tree_items table tree) (make_key dir dir_item hash) bytes is))

  pub near_under : (ino dir : ℕ) → ino ≢ 256 → length (bytes_under (make_key ino inode_ref dir) (tree_items table tree)) ≤ ref_item_length s.names ino dir
  near_under ino dir other =
      under_length (data_under (make_key ino inode_ref dir) (tree_items table tree)) (ref_item_length s.names ino dir) (λ bytes is. ref_item_has_length s (data_in table) (tree_items table tree) gives.items ino dir bytes other (contains_under (tree_items table tree) (make_key ino inode_ref dir) bytes is))

  pub far_under : (ino hash : ℕ) → length (bytes_under (make_key ino inode_extref hash) (tree_items table tree)) ≤ extref_item_length s.names ino hash
  far_under ino hash =
      under_length (data_under (make_key ino inode_extref hash) (tree_items table tree)) (extref_item_length s.names ino hash) (λ bytes is. extref_item_has_length s (data_in table) (tree_items table tree) gives.items ino hash bytes (contains_under (tree_items table tree) (make_key ino inode_extref hash) bytes is))

  module _ (name : FlatName) (may : MayAddName s name) where
    ref_by : (b : Bool) → name.near ≡ b → length (bytes_under (ref_key name) (tree_items table tree)) + length (ref_entry name) ≤ 3970
    ref_by true near =
        let here : length (bytes_under (make_key name.ino inode_ref name.dir) (tree_items table tree)) + (10 + length name.bytes) ≤ 3970 = omega (arith, near_under name.ino name.dir may.not_root, may.near_fits near) in
        rw near (omega (arith, here))
    ref_by false far =
        let hash : ℕ = extref_hash_of name.dir name.bytes in
        let here : length (bytes_under (make_key name.ino inode_extref hash) (tree_items table tree)) + (18 + length name.bytes) ≤ 3970 = omega (arith, far_under name.ino hash, may.far_fits far) in
        rw far (omega (arith, here))

    pub ref_fits : length (bytes_under (ref_key name) (tree_items table tree)) + length (ref_entry name) ≤ 3970
    ref_fits = ref_by name.near refl

    pub entry_fits : length (bytes_under (hashed_key name) (tree_items table tree)) + (30 + length name.bytes) ≤ 3970
    entry_fits = omega (arith, hashed_under name.dir (name_hash_of name.bytes), may.entry_fits)

module _ (table : Table) (tree : Tree) (s : Subvolume) (gives : GivesSubvolume table tree s) (name : FlatName) (may : MayRemoveName s name) where
  remove_by : (b : Bool) → name.near ≡ b → length (bytes_under (ref_key name) (tree_items table tree)) ≤ 3970
  remove_by true near =
      let here : length (bytes_under (make_key name.ino inode_ref name.dir) (tree_items table tree)) ≤ 3970 = omega (arith, near_under table tree s gives name.ino name.dir may.not_root, may.near_fits near) in
      rw near here
  remove_by false far =
      let hash : ℕ = extref_hash_of name.dir name.bytes in
      let here : length (bytes_under (make_key name.ino inode_extref hash) (tree_items table tree)) ≤ 3970 = omega (arith, far_under table tree s gives name.ino hash, may.far_fits far) in
      rw far here

  pub remove_ref_fits : length (bytes_under (ref_key name) (tree_items table tree)) ≤ 3970
  remove_ref_fits = remove_by name.near refl

  pub remove_entry_fits : length (bytes_under (hashed_key name) (tree_items table tree)) ≤ 3970
  remove_entry_fits = omega (arith, hashed_under table tree s gives name.dir (name_hash_of name.bytes), may.entry_fits)

-- an inode's item says one thing
pub one_inode : (items : List Item) (ino : ℕ) (one two : InodeValue) → HasInode items ino one → HasInode items ino two → one ≡ two
one_inode items ino one two a b =
    let same : a.bytes ≡ b.bytes = some_same a.bytes b.bytes (sym a.there ∙ b.there) in
    sym a.spelled.value ∙ ap inode_value same ∙ b.spelled.value

-- the number of names in an inode's item is small
pub nlink_small : (s : Subvolume) (ino : ℕ) (inode : InodeRecord) (most : ℕ) → 1 ≤ most → links_of s.names ino ≤ most → nlink_of s ino inode ≤ most
nlink_small s ino (FileInode file) most one few = few
nlink_small s ino (DirInode dir) most one few = one
nlink_small s ino (LinkInode link) most one few = few
