-- The listing of a volume: for each subvolume a line for each name that leads from its root directory to an inode, and
-- a line for each attribute.
use Rattle.std.specs.Prelude.{ℕ, zero, suc, ◌*◌, ◌/◌, ◌%◌, Bool, false, cond, ◌&&◌, not, List, [], ◌∷◌, ◌++◌, map, length, codes, Some, None, is_some, sum_by, count_by, nat_eq, nat_le}
use Rattle.std.specs.List.{flat_map}
use Rattle.std.specs.Fmt.{decimal}
use Rattle.std.specs.Ordering.{nat_cmp}
use Rattle.std.specs.Cmp.Lexicographic.{slice_cmp}
use Rattle.std.specs.FinMap.{get, entries, from_entries}
use Rattle.blk_base.specs.Crc.{crc32c_of}
use Rattle.io_edge.specs.Printed.{hex8, printed}
use Rattle.flat_model.specs.declared.view.Kind.{Kind}
use Rattle.flat_model.specs.declared.view.Kind.TheVariants.{File, Dir, Link}
use Rattle.flat_model.specs.Records.{Attributes, InodeRecord, FileInode, DirInode, LinkInode, kind_of, attributes_of}
use Rattle.flat_model.specs.Names.{FlatName, entries_of, links_of}
use Rattle.flat_model.specs.Contents.{bytes_read}
use Rattle.flat_model.specs.Volume.{Subvolume, Volume, is_dir_at}

-- the names in the order of their bytes; of names with the same bytes, which no directory has, the first (own)
unfoldable pub in_byte_order : List FlatName → List FlatName
in_byte_order names = map (λ e. e.1) (entries (from_entries {R = slice_cmp nat_cmp} (map (λ n. (n.bytes, n)) names)))

-- an inode, and the names that lead to it from the root directory (own)
pub record Listed : Type 0 where
  pub path : List (List ℕ)
  pub ino : ℕ

-- What is below a directory: each of its names in the order of their bytes, and behind a name what is below it; so many
-- names deep and no deeper (own)
abbrev pub below : ℕ → Subvolume → ℕ → List (List ℕ) → List Listed
below zero sub dir path = []
below (suc depth) sub dir path =
    flat_map (λ name. let to = path ++ name.bytes ∷ [] in record { path = to; ino = name.ino } ∷ cond (is_dir_at sub name.ino) (below depth sub name.ino to) []) (in_byte_order (entries_of sub.names dir))

-- all of a subvolume: its root directory, and what is below that; no way down has more names than the subvolume (own)
unfoldable pub listed : Subvolume → List Listed
listed sub = record { path = []; ino = 256 } ∷ below (length sub.names) sub 256 []

-- the word of a kind (own)
abbrev pub kind_word : Kind → List ℕ
kind_word File = codes "file"
kind_word Dir = codes "dir"
kind_word Link = codes "link"

-- how many names a line shows: those of a file or symlink, 1 of a directory ("INODE_ITEM": nlink)
abbrev pub links_shown : Subvolume → ℕ → InodeRecord → ℕ
links_shown sub ino (FileInode file) = links_of sub.names ino
links_shown sub ino (DirInode dir) = 1
links_shown sub ino (LinkInode link) = links_of sub.names ino

-- the size that a line shows, in bytes: a file's, twice the bytes of the names in a directory, those of a symlink's target ("INODE_ITEM": size)
abbrev pub size_shown : Subvolume → ℕ → InodeRecord → ℕ
size_shown sub ino (FileInode file) = file.size
size_shown sub ino (DirInode dir) = 2 * sum_by (λ name. length name.bytes) (entries_of sub.names ino)
size_shown sub ino (LinkInode link) = length link.target

-- the sum that a line shows: the CRC-32C of a file's bytes, `-` of others (own)
abbrev pub sum_shown : InodeRecord → List ℕ
sum_shown (FileInode file) = hex8 (crc32c_of (bytes_read file 0 file.size))
sum_shown (DirInode dir) = codes "-"
sum_shown (LinkInode link) = codes "-"

-- a name behind its slash (own)
abbrev pub step_shown : List ℕ → List ℕ
step_shown name = codes "/" ++ printed name

-- the names that lead to an inode, each behind a slash; one slash where there is none (own)
unfoldable pub path_shown : List (List ℕ) → List ℕ
path_shown [] = codes "/"
path_shown (name ∷ names) = flat_map step_shown (name ∷ names)

-- a symlink's target behind a space, nothing of others (own)
abbrev pub target_shown : InodeRecord → List ℕ
target_shown (FileInode file) = []
target_shown (DirInode dir) = []
target_shown (LinkInode link) = codes " " ++ printed link.target

-- a word of a line, and the space behind it (own)
abbrev pub word : List ℕ → List ℕ
word text = text ++ codes " "

-- the line of an inode at the end of these names (own)
unfoldable pub line_of : Subvolume → Listed → InodeRecord → List ℕ
line_of sub listed inode =
    word (decimal listed.ino) ++ word (kind_word (kind_of inode)) ++ word (decimal (links_shown sub listed.ino inode)) ++ word (decimal (size_shown sub listed.ino inode)) ++ word (sum_shown inode)
    ++ path_shown listed.path ++ target_shown inode ++ codes "\n"

-- the line of an attribute (own)
unfoldable pub attribute_line : List ℕ × List ℕ → List ℕ
attribute_line attribute = codes " attr " ++ printed attribute.0 ++ codes " " ++ printed attribute.1 ++ codes "\n"

-- the lines of an inode's attributes, in the order of the bytes of their names (own)
unfoldable pub attribute_lines : Attributes → List ℕ
attribute_lines attributes = flat_map attribute_line (entries attributes)

-- the lines of what stands at the end of these names; nothing where no inode does, which no coherent subvolume has (own)
unfoldable pub lines_at : Subvolume → Listed → List ℕ
lines_at sub listed = elim (get sub.inodes listed.ino) [ None ↦ [] | Some inode ↦ line_of sub listed inode ++ attribute_lines (attributes_of inode) ]

-- the lines of a subvolume (own)
unfoldable pub lines_of : Subvolume → List ℕ
lines_of sub = flat_map (lines_at sub) (listed sub)

-- whether an inode stands at the end of these names (own)
abbrev pub is_there : Subvolume → Listed → Bool
is_there sub listed = is_some (get sub.inodes listed.ino)

-- how many lines of a subvolume are those of inodes (own)
unfoldable pub count_of : Subvolume → ℕ
count_of sub = count_by (is_there sub) (listed sub)

-- the lines of a subvolume behind the line of its number ("ROOT_ITEM")
unfoldable pub part_of : ℕ × Subvolume → List ℕ
part_of entry = codes "sub " ++ decimal entry.0 ++ codes "\n" ++ lines_of entry.1

-- the last line: how many lines are those of inodes (own)
unfoldable pub done_line : ℕ → List ℕ
done_line lines = codes "done " ++ decimal lines ++ codes "\n"

-- the listing of a volume: its subvolumes in the order of their numbers, and the last line (own)
unfoldable pub listing_of : Volume → List ℕ
listing_of volume = flat_map part_of (entries volume) ++ done_line (sum_by (λ entry. count_of entry.1) (entries volume))
