-- A worked subvolume: /d with the file /d/f, which is also /d/g by a far name, and the symlink /d/l; and its items.
use Rattle.std.specs.Prelude.{ℕ, true, false, List, [], ◌∷◌}
use Rattle.std.specs.FinMap.{insert, empty}
use Rattle.blk_base.specs.Leaf.{Item}
use Rattle.blk_base.specs.Items.{InodeValue, inode_bytes}
use Rattle.blk_base.specs.Entries.{RefValue, ExtRefValue, EntryValue, ref_bytes, extref_bytes, entry_bytes}
use Rattle.blk_base.specs.Extents.{inline_bytes, regular_bytes}
use Rattle.flat_model.specs.Names.{FlatName}
use Rattle.flat_model.specs.Records.{FileRecord, LinkRecord, FileInode, LinkInode, new_dir}
use Rattle.flat_model.specs.Volume.{Subvolume}
use Rattle.volume_image.specs.Subvolume.{make_key}

-- ---- as a flat subvolume

abbrev pub name_d : FlatName
name_d = record { dir = 256; index = 2; bytes = 100 ∷ []; ino = 257; near = true }

abbrev pub name_f : FlatName
name_f = record { dir = 257; index = 2; bytes = 102 ∷ []; ino = 258; near = true }

abbrev pub name_g : FlatName
name_g = record { dir = 257; index = 3; bytes = 103 ∷ []; ino = 258; near = false }

abbrev pub name_l : FlatName
name_l = record { dir = 257; index = 4; bytes = 108 ∷ []; ino = 259; near = true }

-- a file of 5 bytes in one block, with the attribute a of one byte
abbrev pub worked_file : List ℕ → FileRecord
worked_file block = record { attributes = insert empty (97 ∷ []) (1 ∷ []); size = 5; blocks = insert empty 0 block }

-- a symlink to x
abbrev pub worked_link : LinkRecord
worked_link = record { attributes = empty; target = 120 ∷ [] }

abbrev pub worked_subvolume : List ℕ → Subvolume
worked_subvolume block = record {
  inodes = insert (insert (insert (insert empty 256 new_dir) 257 new_dir) 258 (FileInode (worked_file block))) 259 (LinkInode worked_link);
  names = name_d ∷ name_f ∷ name_g ∷ name_l ∷ [];
}

-- ---- as items, of generation 7 and transaction 9; the file's block stands at byte address 81920

abbrev pub worked_inode : ℕ → ℕ → ℕ → ℕ → InodeValue
worked_inode size nbytes nlink mode = record { generation = 7; transid = 9; size = size; nbytes = nbytes; nlink = nlink; mode = mode }

abbrev pub worked_entry : ℕ → ℕ → List ℕ → EntryValue
worked_entry ino kind name = record { target = make_key ino 1 0; transid = 9; kind = kind; name = name; value = [] }

abbrev pub worked_attribute : EntryValue
worked_attribute = record { target = make_key 0 0 0; transid = 9; kind = 8; name = 97 ∷ []; value = 1 ∷ [] }

abbrev pub worked_ref : ℕ → List ℕ → RefValue
worked_ref index name = record { index = index; name = name }

abbrev pub worked_extref : ExtRefValue
worked_extref = record { parent = 257; index = 3; name = 103 ∷ [] }

abbrev pub worked_items : List Item
worked_items =
    (make_key 256 1 0, inode_bytes (worked_inode 2 0 1 16877))
    ∷ (make_key 256 12 256, ref_bytes (worked_ref 0 (46 ∷ 46 ∷ [])))
    ∷ (make_key 256 84 4189400016, entry_bytes (worked_entry 257 2 (100 ∷ [])))
    ∷ (make_key 256 96 2, entry_bytes (worked_entry 257 2 (100 ∷ [])))
    ∷ (make_key 257 1 0, inode_bytes (worked_inode 6 0 1 16877))
    ∷ (make_key 257 12 256, ref_bytes (worked_ref 2 (100 ∷ [])))
    ∷ (make_key 257 84 411982631, entry_bytes (worked_entry 258 1 (102 ∷ [])))
    ∷ (make_key 257 84 1936487199, entry_bytes (worked_entry 259 7 (108 ∷ [])))
    ∷ (make_key 257 84 3940931620, entry_bytes (worked_entry 258 1 (103 ∷ [])))
    ∷ (make_key 257 96 2, entry_bytes (worked_entry 258 1 (102 ∷ [])))
    ∷ (make_key 257 96 3, entry_bytes (worked_entry 258 1 (103 ∷ [])))
    ∷ (make_key 257 96 4, entry_bytes (worked_entry 259 7 (108 ∷ [])))
    ∷ (make_key 258 1 0, inode_bytes (worked_inode 5 4096 2 33188))
    ∷ (make_key 258 12 257, ref_bytes (worked_ref 2 (102 ∷ [])))
    ∷ (make_key 258 13 1197962379, extref_bytes worked_extref)
    ∷ (make_key 258 24 3427024844, entry_bytes worked_attribute)
    ∷ (make_key 258 108 0, regular_bytes 7 81920 4096)
    ∷ (make_key 259 1 0, inode_bytes (worked_inode 1 1 1 41471))
    ∷ (make_key 259 12 257, ref_bytes (worked_ref 4 (108 ∷ [])))
    ∷ (make_key 259 108 0, inline_bytes 7 (120 ∷ []))
    ∷ []
