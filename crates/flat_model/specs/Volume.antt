-- Flat volumes: subvolumes as inodes and names, and the numbers that a run keeps beside them.
use Rattle.std.specs.Prelude.{ℕ, zero, suc, max, Bool, true, false, cond, List, [], ◌∷◌, map, Option, Some, None, unwrap_or, fold}
use Rattle.std.specs.Ordering.{nat_cmp}
use Rattle.std.specs.List.{range_with_len}
use Rattle.std.specs.FinMap.{FinMap, empty, get, insert, entries, keys, from_entries}
use Rattle.flat_model.specs.Records.{InodeRecord, is_dir_record, is_link_record, new_dir}
use Rattle.flat_model.specs.Names.{FlatName}

-- a subvolume: the record of each inode number that it has, and the set of its names (file tree of the on-disk format)
pub record Subvolume : Type 0 where
  pub inodes : FinMap nat_cmp InodeRecord
  pub names : List FlatName

-- a volume: its subvolumes by their numbers ("ROOT_ITEM")
abbrev pub Volume : Type 0
Volume = FinMap nat_cmp Subvolume

-- the numbers of n subvolumes: 5, and then 256 and up ("ROOT_ITEM", own)
abbrev pub subvolume_ids : ℕ → List ℕ
subvolume_ids zero = []
subvolume_ids (suc count) = 5 ∷ range_with_len 256 count

-- a subvolume with nothing but its root directory, inode 256 (own)
abbrev pub bare_subvolume : Subvolume
bare_subvolume = record { inodes = insert empty 256 new_dir; names = [] }

-- a volume of so many bare subvolumes, as it is when it is made (own)
abbrev pub bare_volume : ℕ → Volume
bare_volume count = from_entries (map (λ id. (id, bare_subvolume)) (subvolume_ids count))

-- whether the record, where there is one, is a directory's ("INODE_ITEM": mode)
abbrev pub is_dir_there : Option InodeRecord → Bool
is_dir_there None = false
is_dir_there (Some inode) = is_dir_record inode

-- whether the record, where there is one, is no directory's ("INODE_ITEM": mode)
abbrev pub is_other_there : Option InodeRecord → Bool
is_other_there None = false
is_other_there (Some inode) = cond (is_dir_record inode) false true

-- whether the record, where there is one, is a symlink's ("INODE_ITEM": mode)
abbrev pub is_link_there : Option InodeRecord → Bool
is_link_there None = false
is_link_there (Some inode) = is_link_record inode

-- whether the inode is there and is a directory ("INODE_ITEM": mode)
abbrev pub is_dir_at : Subvolume → ℕ → Bool
is_dir_at sub ino = is_dir_there (get sub.inodes ino)

-- What a run keeps beside a subvolume: the greatest inode number that it has had since the mount, the greatest index that
-- any of its directories has had, and for each directory the greatest index that it has had. Index 1 stands for none,
-- since indexes begin at 2 ("DIR_INDEX", own)
pub record RunNumbers : Type 0 where
  pub last_ino : ℕ
  pub last_index : ℕ
  pub dir_indexes : FinMap nat_cmp ℕ

-- the greatest index that a directory has had, 1 where it has had none (own)
abbrev pub last_index_in : RunNumbers → ℕ → ℕ
last_index_in numbers dir = unwrap_or (get numbers.dir_indexes dir) 1

-- the numbers once this name has been there (own)
abbrev pub note_name : RunNumbers → FlatName → RunNumbers
note_name numbers name = record numbers { last_index = max numbers.last_index name.index; dir_indexes = insert numbers.dir_indexes name.dir (max (last_index_in numbers name.dir) name.index) }

-- the numbers once this inode has been there (own)
abbrev pub note_ino : RunNumbers → ℕ → RunNumbers
note_ino numbers ino = record numbers { last_ino = max numbers.last_ino ino }

-- the numbers of a subvolume that has had nothing but its root directory (own)
abbrev pub bare_numbers : RunNumbers
bare_numbers = record { last_ino = 256; last_index = 1; dir_indexes = empty }

-- the numbers at the mount: the greatest that the subvolume has (own)
unfoldable pub numbers_at_mount : Subvolume → RunNumbers
numbers_at_mount sub = fold note_name (fold note_ino bare_numbers (keys sub.inodes)) sub.names

-- a subvolume in a run: what it is, and the numbers beside it (own)
pub record RunSub : Type 0 where
  pub sub : Subvolume
  pub numbers : RunNumbers

-- a volume in a run (own)
abbrev pub RunVolume : Type 0
RunVolume = FinMap nat_cmp RunSub

-- a volume as its run begins (own)
unfoldable pub mounted : Volume → RunVolume
mounted volume = from_entries (map (λ entry. (entry.0, record { sub = entry.1; numbers = numbers_at_mount entry.1 })) (entries volume))

-- what the volume in a run is, without the numbers beside it (own)
unfoldable pub volume_of : RunVolume → Volume
volume_of run = from_entries (map (λ entry. (entry.0, entry.1.sub)) (entries run))
