-- What the log tree of a subvolume says, apart from any block: whole inodes, existing inodes, the names of both, and
-- ranges of directories with the entries that they keep.
use Rattle.std.specs.Prelude.{ℕ, Bool, not, ◌&&◌, ◌||◌, List, [], is_some, nat_eq, nat_le, bytes_eq, ◌∷◌, Contains, ⊤}
use Rattle.std.specs.Ordering.{nat_cmp}
use Rattle.std.specs.List.{list_any}
use Rattle.std.specs.FinMap.{FinMap, empty, get}
use Rattle.flat_model.specs.Records.{Attributes, Blocks, DirRecord, LinkRecord, InodeRecord}
use Rattle.flat_model.specs.Names.{FlatName}

-- what the log has of a file that is whole in it: attributes and size, the blocks that it brings, and its holes, each as
-- its first block and how many blocks it has ("EXTENT_DATA"; a hole has disk_bytenr 0)
pub record FileChanges : Type 0 where
  pub attributes : Attributes
  pub size : ℕ
  pub blocks : Blocks
  pub holes : List (ℕ × ℕ)

-- an inode that is whole in the log ("INODE_ITEM" with a generation, LOG_INODE_ALL)
pub data WholeInode : Type 0 where
  WholeFile : FileChanges → WholeInode
  WholeDir : DirRecord → WholeInode
  WholeLink : LinkRecord → WholeInode

-- a range of a directory's indexes, from the first to the last: of these replay keeps the names alone that the log has
-- as entries ("DIR_LOG_INDEX")
pub record LogRange : Type 0 where
  pub dir : ℕ
  pub first : ℕ
  pub last : ℕ

-- an entry of a directory in the log: a name without its mark ("DIR_INDEX")
pub record LogEntry : Type 0 where
  pub dir : ℕ
  pub index : ℕ
  pub bytes : List ℕ
  pub ino : ℕ

-- no element of the list comes twice
abbrev pub AreDistinct : {X : Type 0} → List X → Type 0
AreDistinct [] = ⊤
AreDistinct (x ∷ xs) = (Contains xs x → ⊥) × AreDistinct xs

-- a flat log: whole inodes; inodes that it only says exist, each with its record at creation ("INODE_ITEM" with
-- generation 0, LOG_INODE_EXISTS); the names of both; ranges, and the entries in them
pub record FlatLog : Type 0 where
  pub whole : FinMap nat_cmp WholeInode
  pub existing : FinMap nat_cmp InodeRecord
  pub names : List FlatName
  pub ranges : List LogRange
  pub entries : List LogEntry

-- a log that says nothing (own)
abbrev pub empty_log : FlatLog
empty_log = record { whole = empty; existing = empty; names = []; ranges = []; entries = [] }

-- whether the log has the inode, whole or existing
abbrev pub is_logged : FlatLog → ℕ → Bool
is_logged log ino = is_some (get log.whole ino) || is_some (get log.existing ino)

-- whether the log has the inode whole
abbrev pub is_whole : FlatLog → ℕ → Bool
is_whole log ino = is_some (get log.whole ino)

-- whether the index of the directory lies in one of these ranges ("DIR_LOG_INDEX")
abbrev pub is_covered : List LogRange → ℕ → ℕ → Bool
is_covered ranges dir index = list_any (λ range. nat_eq range.dir dir && (nat_le range.first index && nat_le index range.last)) ranges

-- the entry that a directory has of a name ("DIR_INDEX")
abbrev pub entry_of : FlatName → LogEntry
entry_of name = record { dir = name.dir; index = name.index; bytes = name.bytes; ino = name.ino }

-- whether an entry is the name's ("DIR_INDEX")
abbrev pub is_entry_of : FlatName → LogEntry → Bool
is_entry_of name entry =
    nat_eq entry.dir name.dir && (nat_eq entry.index name.index && (bytes_eq entry.bytes name.bytes && nat_eq entry.ino name.ino))

-- whether one of these entries is the name's ("DIR_INDEX")
abbrev pub has_entry : List LogEntry → FlatName → Bool
has_entry entries name = list_any (is_entry_of name) entries

-- whether the log drops the name by its ranges: it lies in one and has no equal entry (after the kernel's replay_dir_deletes)
abbrev pub is_dropped : FlatLog → FlatName → Bool
is_dropped log name = is_covered log.ranges name.dir name.index && not (has_entry log.entries name)
