-- Subvolumes of worked runs: what was committed, what is logged, and what is there when a file or directory is synced. Names have one byte; a new name has
-- an index above all that the subvolume has had.
use Rattle.std.specs.Prelude.{ℕ, zero, suc, ◌+◌, ◌-◌, true, List, [], ◌∷◌}
use Rattle.std.specs.FinMap.{empty, from_entries}
use Rattle.flat_model.specs.Records.{InodeRecord, FileInode, new_file, new_dir}
use Rattle.flat_model.specs.Names.{FlatName}
use Rattle.flat_model.specs.Volume.{Subvolume}
use Rattle.logged_volume.specs.Rules.{RoomNumbers}
use Rattle.logged_volume.specs.FlatLog.{WholeInode, WholeFile, WholeDir, LogRange, LogEntry, FlatLog}

-- a near name of one byte
abbrev pub one_byte : ℕ → ℕ → ℕ → ℕ → FlatName
one_byte dir index byte ino = record { dir = dir; index = index; bytes = byte ∷ []; ino = ino; near = true }

-- a subvolume with these inodes and names
abbrev pub with : List (ℕ × InodeRecord) → List FlatName → Subvolume
with inodes names = record { inodes = from_entries inodes; names = names }

-- a file of this size without blocks
abbrev pub file_of : ℕ → InodeRecord
file_of size = FileInode (record { attributes = empty; size = size; blocks = empty })

abbrev pub range : ℕ → ℕ → ℕ → LogRange
range dir first last = record { dir = dir; first = first; last = last }

-- room enough, and no failure
abbrev pub ample : RoomNumbers
ample = record { free = 4000; tree_blocks = 4; weight = 9; failed = 0 }

-- ---- `/a` is renamed to `/b`, and another `/a` made

abbrev pub renamed_inodes : List (ℕ × InodeRecord)
renamed_inodes = (256, new_dir) ∷ (257, file_of 2) ∷ []

abbrev pub renamed_names : List FlatName
renamed_names = one_byte 256 2 97 257 ∷ []

abbrev pub renamed : Subvolume
renamed = with renamed_inodes renamed_names

abbrev pub remade_inodes : List (ℕ × InodeRecord)
remade_inodes = (256, new_dir) ∷ (257, file_of 2) ∷ (258, file_of 9) ∷ []

abbrev pub remade_names : List FlatName
remade_names = one_byte 256 3 98 257 ∷ one_byte 256 4 97 258 ∷ []

abbrev pub remade : Subvolume
remade = with remade_inodes remade_names

-- ---- `/a` and `/b` exchange their names by way of `/t`

abbrev pub pair_inodes : List (ℕ × InodeRecord)
pair_inodes = (256, new_dir) ∷ (257, file_of 2) ∷ (258, file_of 9) ∷ []

abbrev pub pair_names : List FlatName
pair_names = one_byte 256 2 97 257 ∷ one_byte 256 3 98 258 ∷ []

abbrev pub pair : Subvolume
pair = with pair_inodes pair_names

abbrev pub crossed_names : List FlatName
crossed_names = one_byte 256 5 97 258 ∷ one_byte 256 6 98 257 ∷ []

abbrev pub crossed : Subvolume
crossed = with pair_inodes crossed_names

-- ---- two directories `/a` and `/a/b`: the inner one is moved out, and the outer one into it

abbrev pub nested_inodes : List (ℕ × InodeRecord)
nested_inodes = (256, new_dir) ∷ (257, new_dir) ∷ (258, new_dir) ∷ []

abbrev pub nested_names : List FlatName
nested_names = one_byte 256 2 97 257 ∷ one_byte 257 3 98 258 ∷ []

abbrev pub nested : Subvolume
nested = with nested_inodes nested_names

abbrev pub turned_names : List FlatName
turned_names = one_byte 256 4 98 258 ∷ one_byte 258 5 97 257 ∷ []

abbrev pub turned : Subvolume
turned = with nested_inodes turned_names

-- ---- `/d/x` is unlinked, then the directory `/d` itself is removed

abbrev pub filled_inodes : List (ℕ × InodeRecord)
filled_inodes = (256, new_dir) ∷ (257, new_dir) ∷ (258, new_file) ∷ []

abbrev pub filled_names : List FlatName
filled_names = one_byte 256 2 100 257 ∷ one_byte 257 3 120 258 ∷ []

abbrev pub filled : Subvolume
filled = with filled_inodes filled_names

abbrev pub emptied_inodes : List (ℕ × InodeRecord)
emptied_inodes = (256, new_dir) ∷ (257, new_dir) ∷ []

abbrev pub emptied_names : List FlatName
emptied_names = one_byte 256 2 100 257 ∷ []

abbrev pub emptied : Subvolume
emptied = with emptied_inodes emptied_names

abbrev pub bare_inodes : List (ℕ × InodeRecord)
bare_inodes = (256, new_dir) ∷ []

abbrev pub bare : Subvolume
bare = with bare_inodes []

-- ---- of `/d/a`, `/d/b` and `/d/c` the middle one is unlinked, and `/d/d` made

abbrev pub three_inodes : List (ℕ × InodeRecord)
three_inodes = (256, new_dir) ∷ (257, new_dir) ∷ (258, new_file) ∷ (259, new_file) ∷ (260, new_file) ∷ []

abbrev pub three_names : List FlatName
three_names = one_byte 256 2 100 257 ∷ one_byte 257 3 97 258 ∷ one_byte 257 4 98 259 ∷ one_byte 257 5 99 260 ∷ []

abbrev pub three : Subvolume
three = with three_inodes three_names

abbrev pub changed_inodes : List (ℕ × InodeRecord)
changed_inodes = (256, new_dir) ∷ (257, new_dir) ∷ (258, new_file) ∷ (260, new_file) ∷ (261, new_file) ∷ []

abbrev pub changed_names : List FlatName
changed_names = one_byte 256 2 100 257 ∷ one_byte 257 3 97 258 ∷ one_byte 257 5 99 260 ∷ one_byte 257 6 100 261 ∷ []

abbrev pub changed : Subvolume
changed = with changed_inodes changed_names

abbrev pub made_entry : LogEntry
made_entry = record { dir = 257; index = 6; bytes = 100 ∷ []; ino = 261 }

-- ---- `/g/c` is moved to `/q/c`, the directory `/g` removed and a file `/g` made

abbrev pub left_inodes : List (ℕ × InodeRecord)
left_inodes = (256, new_dir) ∷ (257, new_dir) ∷ (258, new_dir) ∷ (259, new_file) ∷ []

abbrev pub left_names : List FlatName
left_names = one_byte 256 2 113 257 ∷ one_byte 256 3 103 258 ∷ one_byte 258 4 99 259 ∷ []

abbrev pub left : Subvolume
left = with left_inodes left_names

abbrev pub replaced_inodes : List (ℕ × InodeRecord)
replaced_inodes = (256, new_dir) ∷ (257, new_dir) ∷ (259, new_file) ∷ (260, new_file) ∷ []

abbrev pub replaced_names : List FlatName
replaced_names = one_byte 256 2 113 257 ∷ one_byte 256 6 103 260 ∷ one_byte 257 5 99 259 ∷ []

abbrev pub replaced : Subvolume
replaced = with replaced_inodes replaced_names

-- ---- files whose names are the bytes from 49 on are renamed each to the next name, the last one first, and another file gets the first name

-- so many files from this number on
abbrev pub files : ℕ → ℕ → List (ℕ × InodeRecord)
files ino zero = []
files ino (suc count) = (ino, new_file) ∷ files (ino + 1) count

-- so many names at rising indexes, of rising bytes and inodes
abbrev pub rising_names : ℕ → ℕ → ℕ → ℕ → List FlatName
rising_names index byte ino zero = []
rising_names index byte ino (suc count) = one_byte 256 index byte ino ∷ rising_names (index + 1) (byte + 1) (ino + 1) count

-- so many names at rising indexes, of falling bytes and inodes, and then another one
abbrev pub falling_names : ℕ → ℕ → ℕ → ℕ → ℕ → List FlatName
falling_names index byte ino other zero = one_byte 256 index byte other ∷ []
falling_names index byte ino other (suc count) = one_byte 256 index byte ino ∷ falling_names (index + 1) (byte - 1) (ino - 1) other count

abbrev pub row_inodes : ℕ → List (ℕ × InodeRecord)
row_inodes count = (256, new_dir) ∷ files 257 count

abbrev pub row_names : ℕ → List FlatName
row_names count = rising_names 2 49 257 count

abbrev pub shifted_names : ℕ → List FlatName
shifted_names count = falling_names (count + 2) (count + 49) (count + 256) (count + 257) count

abbrev pub row : ℕ → Subvolume
row count = with (row_inodes count) (row_names count)

abbrev pub shifted : ℕ → Subvolume
shifted count = with (row_inodes (count + 1)) (shifted_names count)

-- ---- `/a` is unlinked, and another `/a` made

abbrev pub again_inodes : List (ℕ × InodeRecord)
again_inodes = (256, new_dir) ∷ (258, new_file) ∷ []

abbrev pub again_names : List FlatName
again_names = one_byte 256 3 97 258 ∷ []

abbrev pub again : Subvolume
again = with again_inodes again_names

-- ---- `/y/p` is moved to `/p`, and then `/y`, which has the file f, to `/p/q/y`

abbrev pub deep_inodes : List (ℕ × InodeRecord)
deep_inodes = (256, new_dir) ∷ (257, new_dir) ∷ (258, new_dir) ∷ (259, new_dir) ∷ (260, new_file) ∷ []

abbrev pub deep_names : List FlatName
deep_names = one_byte 256 2 121 257 ∷ one_byte 257 3 112 258 ∷ one_byte 257 5 102 260 ∷ one_byte 258 4 113 259 ∷ []

abbrev pub deep : Subvolume
deep = with deep_inodes deep_names

abbrev pub moved_names : List FlatName
moved_names = one_byte 256 6 112 258 ∷ one_byte 257 5 102 260 ∷ one_byte 258 4 113 259 ∷ one_byte 259 7 121 257 ∷ []

abbrev pub moved : Subvolume
moved = with deep_inodes moved_names

-- ---- `/b`, once `/a`, has another size

abbrev pub resized_inodes : List (ℕ × InodeRecord)
resized_inodes = (256, new_dir) ∷ (257, file_of 9) ∷ []

abbrev pub resized_names : List FlatName
resized_names = one_byte 256 3 98 257 ∷ []

abbrev pub resized : Subvolume
resized = with resized_inodes resized_names

-- ---- `/a` of 4096 bytes is synced, then cut to 5 bytes and renamed to `/c`

abbrev pub cut_inodes : List (ℕ × InodeRecord)
cut_inodes = (256, new_dir) ∷ (257, file_of 5) ∷ []

abbrev pub grown_inodes : List (ℕ × InodeRecord)
grown_inodes = (256, new_dir) ∷ (257, file_of 4096) ∷ []

abbrev pub grown : Subvolume
grown = with grown_inodes renamed_names

abbrev pub cut_names : List FlatName
cut_names = one_byte 256 3 99 257 ∷ []

abbrev pub cut : Subvolume
cut = with cut_inodes cut_names

-- what the first fsync wrote: the file whole, with its name
abbrev pub grown_whole : WholeInode
grown_whole = WholeFile (record { attributes = empty; size = 4096; blocks = empty; holes = [] })

abbrev pub grown_log : FlatLog
grown_log = record { whole = from_entries ((257, grown_whole) ∷ []); existing = empty; names = one_byte 256 2 97 257 ∷ []; ranges = []; entries = [] }

-- what an fsync of `/d` wrote after `/d/x` was unlinked: the directory whole, with its name and a range of all its indexes
abbrev pub emptied_log : FlatLog
emptied_log = record {
  whole = from_entries ((257, WholeDir (record { attributes = empty })) ∷ []);
  existing = empty;
  names = one_byte 256 2 100 257 ∷ [];
  ranges = range 257 0 18_446_744_073_709_551_615 ∷ [];
  entries = [];
}

-- what an fsync of `/` wrote after `/d` was removed: the root directory whole, a range of all its indexes, and one of the index that `/d/x` had
abbrev pub removed_log : FlatLog
removed_log = record {
  whole = from_entries ((256, WholeDir (record { attributes = empty })) ∷ []);
  existing = empty;
  names = [];
  ranges = range 256 0 18_446_744_073_709_551_615 ∷ range 257 3 3 ∷ [];
  entries = [];
}
