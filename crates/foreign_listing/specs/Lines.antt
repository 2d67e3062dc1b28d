-- The line of a name: what a listing shows of the inode or subvolume to which it leads.
use Rattle.std.specs.Prelude.{ℕ, ◌+◌, ◌==◌, Bool, true, false, ◌&&◌, nat_lt, min, List, [], ◌∷◌, ◌++◌, codes, Result, Ok, Err, if◌then◌else◌}
use Rattle.std.specs.Fmt.{decimal}
use Rattle.blk_base.specs.Bytes.{bytes_at}
use Rattle.io_edge.specs.Printed.{hex8, printed}
use Rattle.foreign_format.specs.declared.entry.EntryKind.{EntryKind}
use Rattle.foreign_format.specs.declared.entry.EntryKind.TheVariants.{File, Dir, Chr, Blk, Fifo, Sock, Link, Sub}
use Rattle.foreign_format.specs.declared.extent.Coding.{Coding}
use Rattle.foreign_format.specs.declared.extent.Coding.TheVariants as coding
use Rattle.foreign_format.specs.declared.extent.Extent.{Extent}
use Rattle.foreign_format.specs.declared.extent.Source.{Source}
use Rattle.foreign_format.specs.declared.extent.Source.TheVariants.{Inline}
use Rattle.foreign_format.specs.declared.fault.ForeignFault.{ForeignFault}
use Rattle.foreign_format.specs.declared.fault.ForeignFault.TheVariants.{Incoherent}
use Rattle.foreign_format.specs.declared.inode.Inode.{Inode}
use Rattle.foreign_format.specs.Answer.{and_then}
use Rattle.foreign_format.specs.Items.{length_of}
use Rattle.foreign_tree.specs.Tree.{VolumeValue}
use Rattle.foreign_items.specs.declared.rows.ExtentRow.{ExtentRow}
use Rattle.foreign_items.specs.declared.rows.InodeRow.{InodeRow}
use Rattle.foreign_file.specs.declared.file.Sum.{Sum}
use Rattle.foreign_file.specs.declared.file.Sum.TheVariants as sum
use Rattle.foreign_file.specs.File.{file_sum}
use Rattle.foreign_listing.specs.Names.{Place, at_row}

-- a subvolume's inodes and extents by their items, and its number
pub record TreeValue : Type 0 where
  pub sub : ℕ
  pub inodes : List InodeRow
  pub extents : List ExtentRow

-- the fault of an inode that can't be listed
abbrev pub incoherent : ℕ → ℕ → ForeignFault
incoherent sub ino = Incoherent (record { 0 = sub }) (record { 0 = ino })

-- ---- inodes

-- the row is the inode item of this number
abbrev pub is_item_of : InodeRow → ℕ → Bool
is_item_of row ino = (row.key.objectid == ino) && (row.key.offset == 0)

-- the inode of this number ("INODE_ITEM"), or its item's fault; where it has no item it can't be listed
unfoldable pub inode_in : ℕ → List InodeRow → ℕ → Result Inode ForeignFault
inode_in sub [] ino = Err (incoherent sub ino)
inode_in sub (row ∷ rows) ino = if is_item_of row ino then at_row row.leaf row.key row.inode else inode_in sub rows ino

-- ---- extents

-- the extents of an inode behind those so far, in the order of the tree ("EXTENT_DATA"), or the first item's fault
unfoldable pub extents_from : List Extent → List ExtentRow → ℕ → Result (List Extent) ForeignFault
extents_from extents [] ino = Ok extents
extents_from extents (row ∷ rows) ino =
    if row.key.objectid == ino then and_then (at_row row.leaf row.key row.extent) (λ extent. extents_from (extents ++ extent ∷ []) rows ino) else
    extents_from extents rows ino

-- each extent begins at or behind the end of the one before it
unfoldable pub are_apart : ℕ → List Extent → Bool
are_apart end [] = true
are_apart end (extent ∷ extents) = if nat_lt extent.offset end then false else are_apart (extent.offset + length_of extent) extents

-- these extents, where none overlaps the one before it
abbrev pub if_apart : ℕ → ℕ → List Extent → Result (List Extent) ForeignFault
if_apart sub ino extents = if are_apart 0 extents then Ok extents else Err (incoherent sub ino)

-- the extents of an inode, or the first fault
abbrev pub extents_of : TreeValue → ℕ → Result (List Extent) ForeignFault
extents_of tree ino = and_then (extents_from [] tree.extents ino) (if_apart tree.sub ino)

-- ---- symlinks

-- the bytes of one plain inline extent, up to this size
abbrev pub inline_bytes : List ℕ → ℕ → ℕ → ℕ → Coding → Source → Result (List ℕ) ForeignFault
inline_bytes disk sub ino size coding.Plain (Inline at length) = Ok (bytes_at (min length size) disk at)
inline_bytes disk sub ino size coding source = Err (incoherent sub ino)

-- the target of a symlink of this size, which is the one plain inline extent that it has; some makers put a zero behind it
abbrev pub target_in : List ℕ → ℕ → ℕ → ℕ → List Extent → Result (List ℕ) ForeignFault
target_in disk sub ino size [] = Err (incoherent sub ino)
target_in disk sub ino size (extent ∷ []) = inline_bytes disk sub ino size extent.coding extent.source
target_in disk sub ino size (extent ∷ other ∷ others) = Err (incoherent sub ino)

-- ---- lines

-- the word of a kind (own)
abbrev pub kind_word : EntryKind → List ℕ
kind_word File = codes "file"
kind_word Dir = codes "dir"
kind_word Chr = codes "chr"
kind_word Blk = codes "blk"
kind_word Fifo = codes "fifo"
kind_word Sock = codes "sock"
kind_word Link = codes "link"
kind_word Sub = codes "sub"

-- what is shown of a file's bytes: their CRC-32C, the word of how they are written, or a hyphen (own)
abbrev pub sum_word : Sum → List ℕ
sum_word sum.Compressed = codes "compressed"
sum_word sum.Encrypted = codes "encrypted"
sum_word sum.Large = codes "-"
sum_word (sum.Taken crc) = hex8 crc

-- a path's text, a slash alone for the root directory (own)
abbrev pub path_shown : List ℕ → List ℕ
path_shown [] = codes "/"
path_shown (byte ∷ bytes) = byte ∷ bytes

-- a word of a line, and the space behind it (own)
abbrev pub word : List ℕ → List ℕ
word text = text ++ codes " "

-- the line of a subvolume's entry, which isn't followed (own)
unfoldable pub sub_line : Place → List ℕ
sub_line place = decimal place.to ++ codes " sub - - - " ++ path_shown place.path ++ codes "\n"

-- the line of an inode, with this in the place of its sum and this behind its path (own)
unfoldable pub inode_line : Place → Inode → List ℕ → List ℕ → List ℕ
inode_line place inode sum behind =
    word (decimal place.to) ++ word (kind_word place.kind) ++ word (decimal inode.links) ++ word (decimal inode.size) ++ word sum
    ++ path_shown place.path ++ behind ++ codes "\n"

-- the line of an inode without bytes that are shown
abbrev pub plain_line : TreeValue → Place → Result (List ℕ) ForeignFault
plain_line tree place = and_then (inode_in tree.sub tree.inodes place.to) (λ inode. Ok (inode_line place inode (codes "-") []))

-- the line of a file
abbrev pub file_line : VolumeValue → List ℕ → TreeValue → Place → Result (List ℕ) ForeignFault
file_line volume disk tree place =
    and_then (inode_in tree.sub tree.inodes place.to) (λ inode.
    and_then (extents_of tree place.to) (λ extents.
    and_then (file_sum volume disk inode.size extents) (λ sum.
    Ok (inode_line place inode (sum_word sum) []))))

-- the line of a symlink, with its target behind a space
abbrev pub link_line : List ℕ → TreeValue → Place → Result (List ℕ) ForeignFault
link_line disk tree place =
    and_then (inode_in tree.sub tree.inodes place.to) (λ inode.
    and_then (extents_of tree place.to) (λ extents.
    and_then (target_in disk tree.sub place.to inode.size extents) (λ target.
    Ok (inode_line place inode (codes "-") (codes " " ++ printed target)))))

-- the line of what stands at a place, by the kind of its entry, or the first fault
abbrev pub line_by : EntryKind → VolumeValue → List ℕ → TreeValue → Place → Result (List ℕ) ForeignFault
line_by File volume disk tree place = file_line volume disk tree place
line_by Link volume disk tree place = link_line disk tree place
line_by Sub volume disk tree place = Ok (sub_line place)
line_by Dir volume disk tree place = plain_line tree place
line_by Chr volume disk tree place = plain_line tree place
line_by Blk volume disk tree place = plain_line tree place
line_by Fifo volume disk tree place = plain_line tree place
line_by Sock volume disk tree place = plain_line tree place

unfoldable pub line_of : VolumeValue → List ℕ → TreeValue → Place → Result (List ℕ) ForeignFault
line_of volume disk tree place = line_by place.kind volume disk tree place
