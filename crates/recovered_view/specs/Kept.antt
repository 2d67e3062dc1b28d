-- Which names of the committed subvolume replay keeps.
use Rattle.std.specs.Prelude.{ℕ, Bool, true, not, ◌&&◌, ◌==◌, List, bytes_eq, nat_le}
use Rattle.blk_base.specs.Entries.{EntryValue}
use Rattle.blk_base.specs.Items.{range_of}
use Rattle.flat_model.specs.declared.view.NameAt.{NameAt}
use Rattle.flat_model.specs.Names.{FlatName}
use Rattle.log_image.specs.LogItems.{read_or}
use Rattle.logged_volume.specs.FlatLog.{FlatLog, is_dropped, is_logged}

-- a name by its parts, of any mark: replay drops a name whatever its mark is
abbrev pub name_of_parts : ℕ → ℕ → List ℕ → ℕ → FlatName
name_of_parts dir index bytes ino = record { dir = dir; index = index; bytes = bytes; ino = ino; near = true }

-- whether replay keeps a name of the committed subvolume: no range drops it, and the log doesn't have its inode
abbrev pub is_kept : FlatLog → FlatName → Bool
is_kept log name = not (is_dropped log name) && not (is_logged log name.ino)

-- a name as the calls hand it out is kept
abbrev pub is_kept_at : FlatLog → NameAt → Bool
is_kept_at log name = is_kept log (name_of_parts name.dir.0 name.index name.name name.ino.0)

-- whether a range's item reaches an index: its last index isn't below ("DIR_LOG_INDEX")
abbrev pub does_reach : ℕ → List ℕ → Bool
does_reach index bytes = nat_le index (read_or 0 (range_of bytes))

-- whether an entry has a name and leads to an inode ("DIR_INDEX")
abbrev pub is_entry_to : List ℕ → ℕ → EntryValue → Bool
is_entry_to bytes ino entry = bytes_eq entry.name bytes && (entry.target.objectid == ino)
