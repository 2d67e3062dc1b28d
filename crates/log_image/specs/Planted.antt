-- A small committed subvolume, a log that is accepted over it, and for each rule of accepted logs a log that breaks it alone.
use Rattle.std.specs.Prelude.{◌≡◌, ◌+◌, ℕ, true, List, [], ◌∷◌, ◌++◌, Option, None, Err, replicate}
use Rattle.std.specs.FinMap.{get, from_entries}
use Rattle.blk_base.specs.Leaf.{Item}
use Rattle.blk_base.specs.Items.{inode_bytes, file_mode, dir_mode, link_mode}
use Rattle.blk_base.specs.Entries.{ref_bytes, entry_bytes}
use Rattle.flat_model.specs.Records.{InodeRecord, new_file, new_dir}
use Rattle.flat_model.specs.Names.{FlatName}
use Rattle.flat_model.specs.Volume.{Subvolume}
use Rattle.logged_volume.specs.Replay.{replay}
use Rattle.volume_image.specs.Subvolume.{Data, make_key}
use Rattle.log_image.specs.LogRules.{LogRule, Unaccepted, log_of, first_fault, broken_rules, accepted_log}

-- ---- the committed subvolume: the file /a and the directory /d

abbrev pub near_in : ℕ → ℕ → ℕ → ℕ → FlatName
near_in dir index byte ino = record { dir = dir; index = index; bytes = byte ∷ []; ino = ino; near = true }

abbrev pub had_inodes : List (ℕ × InodeRecord)
had_inodes = (256, new_dir) ∷ (257, new_file) ∷ (258, new_dir) ∷ []

abbrev pub name_a : FlatName
name_a = near_in 256 2 97 257

abbrev pub name_d : FlatName
name_d = near_in 256 3 100 258

abbrev pub had_names : List FlatName
had_names = name_a ∷ name_d ∷ []

abbrev pub had : Subvolume
had = record { inodes = from_entries had_inodes; names = had_names }

-- ---- items of a log, of generation 7 where an inode is whole

abbrev pub inode_at : ℕ → ℕ → ℕ → ℕ → Item
inode_at ino generation mode size =
    (make_key ino 1 0, inode_bytes (record { generation = generation; transid = 7; size = size; nbytes = 0; nlink = 1; mode = mode }))

abbrev pub ref_at : ℕ → ℕ → ℕ → ℕ → Item
ref_at ino dir index byte = (make_key ino 12 dir, ref_bytes (record { index = index; name = byte ∷ [] }))

-- the file /a whole, as it was
abbrev pub sound_log : List Item
sound_log = inode_at 257 7 file_mode 0 ∷ ref_at 257 256 2 97 ∷ []

-- with an item of a type that no log has: the entry of /d/x by its hash
abbrev pub stray_log : List Item
stray_log = inode_at 257 7 file_mode 0 ∷ ref_at 257 256 2 97
    ∷ (make_key 258 84 2762482543, entry_bytes (record { target = make_key 257 1 0; transid = 7; kind = 1; name = 120 ∷ []; value = [] })) ∷ []

-- with the attribute a of /a under a hash that isn't its own
abbrev pub misplaced_log : List Item
misplaced_log = inode_at 257 7 file_mode 0 ∷ ref_at 257 256 2 97
    ∷ (make_key 257 24 5, entry_bytes (record { target = make_key 0 0 0; transid = 7; kind = 8; name = 97 ∷ []; value = 1 ∷ [] })) ∷ []

-- with the name /b of an inode that has no item
abbrev pub orphan_log : List Item
orphan_log = inode_at 257 7 file_mode 0 ∷ ref_at 257 256 2 97 ∷ ref_at 259 256 4 98 ∷ []

-- /a as a directory
abbrev pub turned_log : List Item
turned_log = inode_at 257 7 dir_mode 0 ∷ ref_at 257 256 2 97 ∷ []

-- /a of one byte more than a file has at most
abbrev pub large_log : List Item
large_log = inode_at 257 7 file_mode 16_777_217 ∷ ref_at 257 256 2 97 ∷ []

-- /a, which only exists, with the attribute a
abbrev pub endowed_log : List Item
endowed_log = inode_at 257 0 file_mode 0 ∷ ref_at 257 256 2 97
    ∷ (make_key 257 24 3427024844, entry_bytes (record { target = make_key 0 0 0; transid = 7; kind = 8; name = 97 ∷ []; value = 1 ∷ [] })) ∷ []

-- the symlink /b, which only exists, without an extent
abbrev pub hollow_log : List Item
hollow_log = inode_at 259 0 link_mode 1 ∷ ref_at 259 256 4 98 ∷ []

-- the root directory as /d/r
abbrev pub looped_log : List Item
looped_log = inode_at 256 7 dir_mode 0 ∷ ref_at 256 258 4 114 ∷ []

-- the file /b at the index of /a, which stays
abbrev pub crossed_log : List Item
crossed_log = inode_at 259 7 file_mode 0 ∷ ref_at 259 256 2 98 ∷ []

-- another file /a at an index of its own, while /a stays
abbrev pub doubled_log : List Item
doubled_log = inode_at 259 7 file_mode 0 ∷ ref_at 259 256 4 97 ∷ []

-- the name /b twice in one item
abbrev pub repeated_log : List Item
repeated_log = inode_at 259 7 file_mode 0
    ∷ (make_key 259 12 256, ref_bytes (record { index = 4; name = 98 ∷ [] }) ++ ref_bytes (record { index = 4; name = 98 ∷ [] })) ∷ []

-- fourteen names of 255 bytes of one hash: 247 times `a`, and then these
abbrev pub same_hash_ends : List (List ℕ)
same_hash_ends =
    (97 ∷ 97 ∷ 97 ∷ 97 ∷ 97 ∷ 97 ∷ 97 ∷ 97 ∷ [])
    ∷ (97 ∷ 103 ∷ 103 ∷ 111 ∷ 99 ∷ 121 ∷ 103 ∷ 117 ∷ [])
    ∷ (98 ∷ 97 ∷ 101 ∷ 103 ∷ 108 ∷ 110 ∷ 104 ∷ 107 ∷ [])
    ∷ (99 ∷ 106 ∷ 118 ∷ 103 ∷ 122 ∷ 99 ∷ 112 ∷ 111 ∷ [])
    ∷ (99 ∷ 111 ∷ 115 ∷ 110 ∷ 121 ∷ 119 ∷ 117 ∷ 113 ∷ [])
    ∷ (101 ∷ 108 ∷ 120 ∷ 101 ∷ 98 ∷ 101 ∷ 100 ∷ 111 ∷ [])
    ∷ (101 ∷ 113 ∷ 112 ∷ 119 ∷ 105 ∷ 100 ∷ 121 ∷ 112 ∷ [])
    ∷ (101 ∷ 114 ∷ 115 ∷ 112 ∷ 104 ∷ 104 ∷ 122 ∷ 122 ∷ [])
    ∷ (102 ∷ 106 ∷ 122 ∷ 109 ∷ 109 ∷ 114 ∷ 107 ∷ 113 ∷ [])
    ∷ (102 ∷ 113 ∷ 116 ∷ 113 ∷ 100 ∷ 107 ∷ 112 ∷ 122 ∷ [])
    ∷ (102 ∷ 114 ∷ 119 ∷ 118 ∷ 101 ∷ 103 ∷ 115 ∷ 112 ∷ [])
    ∷ (103 ∷ 100 ∷ 108 ∷ 100 ∷ 120 ∷ 107 ∷ 118 ∷ 107 ∷ [])
    ∷ (103 ∷ 103 ∷ 111 ∷ 99 ∷ 121 ∷ 103 ∷ 117 ∷ 97 ∷ [])
    ∷ (103 ∷ 121 ∷ 100 ∷ 118 ∷ 115 ∷ 106 ∷ 107 ∷ 116 ∷ [])
    ∷ []

abbrev pub long_refs : ℕ → List (List ℕ) → List ℕ
long_refs index [] = []
long_refs index (end ∷ ends) = ref_bytes (record { index = index; name = replicate 247 97 ++ end }) ++ long_refs (index + 1) ends

-- a file with these names, whose entries of one hash are more than a leaf holds
abbrev pub crowded_log : List Item
crowded_log = inode_at 259 7 file_mode 0 ∷ (make_key 259 12 256, long_refs 4 same_hash_ends) ∷ []

-- the items have no fault, but the objectid breaks this rule and nothing else is broken: the log is refused
pub record IsRefusedFor (items : List Item) (ino : ℕ) (rule : LogRule) : Type 0 where
  pub no_fault : first_fault items items ≡ None
  pub alone : (blocks : Data) → broken_rules had items blocks ≡ (ino, rule) ∷ []
  pub refused : (blocks : Data) → accepted_log had items blocks ≡ Err (Unaccepted ino)

-- replay of the items' log would leave these names, and this record of the inode
abbrev pub LeaveNames : List Item → List FlatName → Type 0
LeaveNames items names = (blocks : Data) → (replay had (log_of items blocks)).names ≡ names

abbrev pub LeaveInode : List Item → ℕ → Option InodeRecord → Type 0
LeaveInode items ino inode = (blocks : Data) → get (replay had (log_of items blocks)).inodes ino ≡ inode
