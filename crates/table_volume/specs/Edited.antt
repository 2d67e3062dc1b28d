-- What an edit of one subvolume in the table may change: of the blocks that it has, of its items, and of its state.
use Rattle.std.specs.Prelude.{◌≡◌, ◌≢◌, ◌⊎◌, ℕ, List, All, Contains}
use Rattle.blk_base.specs.declared.key.Key.{Key}
use Rattle.blk_base.specs.Bytes.{field}
use Rattle.blk_base.specs.Entries.{EntryValue, IsEntries}
use Rattle.blk_base.specs.ItemFaults.{IsEntriesKind}
use Rattle.blk_base.specs.Keys.{extent_data, inode_item}
use Rattle.blk_base.specs.Leaf.{Item}
use Rattle.block_table.specs.declared.state.SlotState.TheVariants.{Dirty}
use Rattle.block_table.specs.declared.tree.SubState.{SubState}
use Rattle.block_table.specs.declared.tree.Tree.{Tree}
use Rattle.block_table.specs.Table.{Table}
use Rattle.block_table.specs.TreeIn.{IsSealedTree, block_at}
use Rattle.tree_frame.specs.Frame.{AreCurrent, IsEdit, TakesAtMost}
use Rattle.tree_range.specs.Shape.{tree_items, tree_reach}
use Rattle.flat_model.specs.Volume.{Subvolume}
use Rattle.table_volume.specs.Gives.{GivesSubvolume, sub_reach}

-- one of the items under this key has this entry ("DIR_ITEM", "DIR_INDEX", "XATTR_ITEM")
pub record HadEntry (items : List Item) (key : Key) (entry : EntryValue) : Type 0 where
  pub bytes : List ℕ
  pub found : List EntryValue
  pub there : Contains items (key, bytes)
  pub spelled : IsEntries key.kind bytes found
  pub has : Contains found entry

-- What is new among the items bears this generation: the transid of an inode item and of an entry, the generation of an extent
-- ("INODE_ITEM": transid; "DIR_ITEM": transid; "EXTENT_DATA": generation).
pub record BearGeneration (running : ℕ) (old new : List Item) : Type 0 where
  pub inodes : (key : Key) (bytes : List ℕ) → key.kind ≡ inode_item → Contains new (key, bytes) → Contains old (key, bytes) ⊎ (field 8 bytes 8 ≡ running)
  pub entries : (key : Key) (bytes : List ℕ) (found : List EntryValue) → IsEntriesKind key.kind → Contains new (key, bytes)
      → IsEntries key.kind bytes found
      → All (λ entry. HadEntry old key entry ⊎ (entry.transid ≡ running)) found
  pub extents : (key : Key) (bytes : List ℕ) → key.kind ≡ extent_data → Contains new (key, bytes) → Contains old (key, bytes) ⊎ (field 8 bytes 0 ≡ running)

-- a tree block that isn't Dirty stood in the tree before, and stands as it stood (own)
abbrev pub KeepsClean : Table → Table → Tree → Tree → Type 0
KeepsClean old new before after =
    (at : ℕ) → Contains (tree_reach new after) at → (block_at new at).state ≢ Dirty → Contains (tree_reach old before) at × (block_at new at ≡ block_at old at)

-- An edit of the subvolume that one state has, behind which another state has it: of its tree and its data blocks alone; the
-- blocks that it then has are current; those of its tree that aren't Dirty stood in it before, as they stand, and where the
-- headers of its tree's blocks were right they are; its number and the generation that new items bear stay, and what is new
-- bears it; and it takes at most so many blocks and buffers more than it gives back (own).
pub record IsSubEdit (old new : Table) (before after : SubState) (most : ℕ) : Type 0 where
  pub edit : IsEdit old new (sub_reach old before.tree) (sub_reach new after.tree)
  pub current : AreCurrent new (sub_reach new after.tree)
  pub kept : KeepsClean old new before.tree after.tree
  pub sealed : (fsid : List ℕ) (was : ℕ) → IsSealedTree old before.tree fsid was → (now : ℕ) × IsSealedTree new after.tree fsid now
  pub owner : after.tree.owner ≡ before.tree.owner
  pub running : after.running ≡ before.running
  pub bear : BearGeneration before.running (tree_items old before.tree) (tree_items new after.tree)
  pub taken : TakesAtMost old new most

-- An edit that makes this subvolume of the one that the state gives (own)
pub record Makes (old new : Table) (before after : SubState) (most : ℕ) (next : Subvolume) : Type 0 where
  pub gives : GivesSubvolume new after.tree next
  pub edit : IsSubEdit old new before after most
