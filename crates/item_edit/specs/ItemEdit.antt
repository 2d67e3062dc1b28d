-- One item of a subvolume's tree changed: what stands under its key then, and what an edit of it leaves.
use Rattle.std.specs.Prelude.{◌≡◌, ◌⊎◌, ℕ, List, [], ◌∷◌, All, Option, Some, None}
use Rattle.std.specs.Option.{unwrap_or}
use Rattle.blk_base.specs.declared.key.Key.{Key}
use Rattle.blk_base.specs.Bytes.{field}
use Rattle.blk_base.specs.Entries.{EntryValue, IsEntries}
use Rattle.blk_base.specs.ItemFaults.{IsEntriesKind}
use Rattle.blk_base.specs.Items.{InodeValue, IsInode}
use Rattle.blk_base.specs.Keys.{extent_data, inode_item}
use Rattle.blk_base.specs.Leaf.{Item}
use Rattle.block_table.specs.declared.tree.Tree.{Tree}
use Rattle.block_table.specs.Table.{Table}
use Rattle.tree_range.specs.Between.{data_under}
use Rattle.tree_range.specs.Shape.{IsTree, tree_items, tree_reach}
use Rattle.tree_frame.specs.Frame.{AreCurrent, TakesAtMost, with_item, without_item}
use Rattle.volume_image.specs.Subvolume.{make_key}
use Rattle.table_volume.specs.Edited.{HadEntry}
use Rattle.table_volume.specs.TreeEdit.{IsTreeEdit}

-- the bytes under a key, none where the items haven't it (own)
abbrev pub bytes_under : Key → List Item → List ℕ
bytes_under key items = unwrap_or (data_under key items) []

-- the bytes of an item, which has one at least: with none there is no item (own)
abbrev pub item_bytes : List ℕ → Option (List ℕ)
item_bytes [] = None
item_bytes (byte ∷ bytes) = Some (byte ∷ bytes)

-- the items with these bytes under a key; without the item of the key, where there are none (own)
abbrev pub changed_item : Key → Option (List ℕ) → List Item → List Item
changed_item key None items = without_item key items
changed_item key (Some bytes) items = with_item key bytes items

-- What is new in these bytes under a key bears this generation: the transid of an inode item and of an entry, the generation
-- of an extent ("INODE_ITEM": transid; "DIR_ITEM": transid; "EXTENT_DATA": generation).
pub record BearsUnder (running : ℕ) (items : List Item) (key : Key) (bytes : List ℕ) : Type 0 where
  pub inode : key.kind ≡ inode_item → field 8 bytes 8 ≡ running
  pub entries : (found : List EntryValue) → IsEntriesKind key.kind → IsEntries key.kind bytes found
      → All (λ entry. HadEntry items key entry ⊎ (entry.transid ≡ running)) found
  pub extent : key.kind ≡ extent_data → field 8 bytes 0 ≡ running

-- One item of a tree is changed: it has these bytes then, or is gone; every other item stays. The tree stands, is current, and 17
-- blocks and buffers are taken at most; and it is an edit of the tree for each generation that the bytes bear (own).
pub record IsItemEdit (old new : Table) (before after : Tree) (key : Key) (now : Option (List ℕ)) : Type 0 where
  pub tree : IsTree new after
  pub current : AreCurrent new (tree_reach new after)
  pub items : tree_items new after ≡ changed_item key now (tree_items old before)
  pub taken : TakesAtMost old new 17
  pub edit : (running : ℕ) → ((bytes : List ℕ) → now ≡ Some bytes → BearsUnder running (tree_items old before) key bytes)
      → IsTreeEdit old new before after running 17

-- the items have the item of this inode, which says this ("INODE_ITEM")
pub record HasInode (items : List Item) (ino : ℕ) (value : InodeValue) : Type 0 where
  pub bytes : List ℕ
  pub there : data_under (make_key ino inode_item 0) items ≡ Some bytes
  pub spelled : IsInode bytes value
