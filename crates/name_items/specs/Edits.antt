-- What the edits of one call leave of the items of a name's inode and directory.
use Rattle.std.specs.Prelude.{◌≡◌, ◌⊎◌, ◌==◌, ℕ, List, [], ◌++◌, Option, Some, if◌then◌else◌}
use Rattle.blk_base.specs.Entries.{EntryValue, dir_entry, file_entry, link_entry}
use Rattle.blk_base.specs.Items.{InodeValue, dir_mode, inode_bytes, link_mode}
use Rattle.blk_base.specs.Keys.{inode_item}
use Rattle.block_table.specs.declared.tree.Tree.{Tree}
use Rattle.block_table.specs.Table.{Table}
use Rattle.tree_range.specs.Shape.{tree_items}
use Rattle.flat_model.specs.Names.{FlatName}
use Rattle.volume_image.specs.Subvolume.{make_key}
use Rattle.item_edit.specs.ItemEdit.{IsItemEdit, bytes_under}
use Rattle.name_items.specs.Names.{hashed_key, indexed_key, ref_key}

-- the type of an entry of a directory ("DIR_ITEM": type)
abbrev pub IsKindOfEntry : ℕ → Type 0
IsKindOfEntry kind = (kind ≡ file_entry) ⊎ (kind ≡ dir_entry) ⊎ (kind ≡ link_entry)

-- the type of the entries that lead to an inode of this mode ("DIR_ITEM": type)
abbrev pub kind_of_mode : ℕ → ℕ
kind_of_mode mode = if mode == dir_mode then dir_entry else (if mode == link_mode then link_entry else file_entry)

-- a name's entry with this type and transaction ("DIR_ITEM")
abbrev pub made_entry : FlatName → ℕ → ℕ → EntryValue
made_entry name kind transid = record { target = make_key name.ino inode_item 0; transid = transid; kind = kind; name = name.bytes; value = [] }

-- the entry, in these bytes, stands behind those of its hash, and at its index (own)
pub record AddsEntries (old new : Table) (before after : Tree) (name : FlatName) (entry : List ℕ) : Type 0 where
  pub middle : Table
  pub between : Tree
  pub hashed : IsItemEdit old middle before between (hashed_key name) (Some (bytes_under (hashed_key name) (tree_items old before) ++ entry))
  pub indexed : IsItemEdit middle new between after (indexed_key name) (Some entry)

-- the inode's item says this then, or it is a directory's and stays (own)
pub data LinksInode (old new : Table) (before after : Tree) (ino : ℕ) (value next : InodeValue) : Type 0 where
  IsDir : (mode : value.mode ≡ dir_mode) (table : new ≡ old) (tree : after ≡ before) → LinksInode old new before after ino value next
  IsOther : (other : value.mode ≡ dir_mode → ⊥) (edit : IsItemEdit old new before after (make_key ino inode_item 0) (Some (inode_bytes next))) → LinksInode old new before after ino value next

-- the inode item with another size, and with another number of names, in a transaction
abbrev pub with_size : InodeValue → ℕ → ℕ → InodeValue
with_size value size transid = record value { size = size; transid = transid }

abbrev pub with_links : InodeValue → ℕ → ℕ → InodeValue
with_links value links transid = record value { nlink = links; transid = transid }

-- The edits of a name's items, which then have these bytes, or are gone: of its inode, of its directory by hash and by index; and
-- of the directory's size and the inode's number of names; one edit of the tree behind the other (own).
pub record NameEdits (old new : Table) (before after : Tree) (name : FlatName) (ref_now hashed_now indexed_now : Option (List ℕ)) (dir inode : InodeValue) (size links running : ℕ) : Type 0 where
  pub t1 : Table
  pub t2 : Table
  pub t3 : Table
  pub t4 : Table
  pub r1 : Tree
  pub r2 : Tree
  pub r3 : Tree
  pub r4 : Tree
  pub linked : IsItemEdit old t1 before r1 (ref_key name) ref_now
  pub hashed : IsItemEdit t1 t2 r1 r2 (hashed_key name) hashed_now
  pub indexed : IsItemEdit t2 t3 r2 r3 (indexed_key name) indexed_now
  pub sized : IsItemEdit t3 t4 r3 r4 (make_key name.dir inode_item 0) (Some (inode_bytes (with_size dir size running)))
  pub counted : LinksInode t4 new r4 after name.ino inode (with_links inode links running)
