-- Items that a listing needs: inodes, roots of trees, entries of directories and extents of files.
use Rattle.std.specs.Prelude.{ℕ, ◌+◌, ◌-◌, Bool, ◌&&◌, ◌||◌, not, nat_lt, ◌==◌, List, length, Option, Some, None, Result, Ok, Err, if◌then◌else◌}
use Rattle.blk_base.specs.declared.fault.ItemFault.{ItemFault}
use Rattle.blk_base.specs.declared.fault.ItemFault.TheVariants.{Size, NameLen, Cut, Kind}
use Rattle.blk_base.specs.Bytes.{field, bytes_at}
use Rattle.blk_base.specs.Name.{is_name}
use Rattle.foreign_format.specs.declared.entry.Entry.{Entry}
use Rattle.foreign_format.specs.declared.entry.EntryKind.{EntryKind}
use Rattle.foreign_format.specs.declared.entry.EntryKind.TheVariants.{File, Dir, Chr, Blk, Fifo, Sock, Link, Sub}
use Rattle.foreign_format.specs.declared.extent.Coding.{Coding}
use Rattle.foreign_format.specs.declared.extent.Coding.TheVariants.{Plain, Compressed, Encrypted}
use Rattle.foreign_format.specs.declared.extent.Source.{Source}
use Rattle.foreign_format.specs.declared.extent.Source.TheVariants.{Inline, Regular, Zeros}
use Rattle.foreign_format.specs.declared.extent.Extent.{Extent}
use Rattle.foreign_format.specs.declared.inode.Inode.{Inode}
use Rattle.foreign_format.specs.declared.root.Root.{Root}

-- ---- inodes ("INODE_ITEM": nlink, size)

abbrev pub inode_of : List ℕ → Result Inode ItemFault
inode_of item = if not (length item == 160) then Err Size else Ok (record { links = field 4 item 40; size = field 8 item 16 })

-- ---- roots of trees ("ROOT_ITEM": bytenr, generation, level, refs)

abbrev pub root_of : ℕ → List ℕ → Result Root ItemFault
root_of offset item =
    if nat_lt (length item) 239 then Err Size else
    Ok (record { offset = offset; at = field 8 item 176; generation = field 8 item 160; level = field 1 item 238; refs = field 4 item 216 })

-- ---- entries of directories ("DIR_INDEX": location, data_len, name_len, type, name)

-- what a name leads to: the inode or the subvolume of this number
pub record EntryValue : Type 0 where
  pub to : ℕ
  pub kind : EntryKind
  pub name : List ℕ

-- what a type of entry says
abbrev pub known_kind : ℕ → Option EntryKind
known_kind kind =
    if kind == 1 then Some File else
    if kind == 2 then Some Dir else
    if kind == 3 then Some Chr else
    if kind == 4 then Some Blk else
    if kind == 5 then Some Fifo else
    if kind == 6 then Some Sock else
    if kind == 7 then Some Link else None

-- the same, where the entry's location has a key of this type: that of a root item is a subvolume's
abbrev pub kind_at : ℕ → Option EntryKind → Option EntryKind
kind_at key_kind None = None
kind_at key_kind (Some kind) = if key_kind == 132 then Some Sub else Some kind

abbrev pub kind_of : ℕ → ℕ → Option EntryKind
kind_of key_kind kind = kind_at key_kind (known_kind kind)

-- where the name ends, and where the data behind it end
abbrev pub name_end : List ℕ → ℕ
name_end item = 30 + field 2 item 27

abbrev pub entry_end : List ℕ → ℕ
entry_end item = name_end item + field 2 item 25

abbrev pub entry_name : List ℕ → List ℕ
entry_name item = bytes_at (field 2 item 27) item 30

abbrev pub with_kind : List ℕ → Option EntryKind → Result EntryValue ItemFault
with_kind item None = Err Kind
with_kind item (Some kind) = Ok (record { to = field 8 item 0; kind = kind; name = entry_name item })

-- the one entry of an item, or the first check that fails
unfoldable pub entry_of : List ℕ → Result EntryValue ItemFault
entry_of item =
    if length item == 0 then Err Size else
    if nat_lt (length item) 30 then Err Cut else
    if nat_lt (length item) (entry_end item) then Err Cut else
    if nat_lt (entry_end item) (length item) then Err Size else
    if not (is_name (entry_name item)) then Err NameLen else
    with_kind item (kind_of (field 1 item 8) (field 1 item 29))

-- an entry as its caller has it
abbrev pub entry_view : Result Entry ItemFault → Result EntryValue ItemFault
entry_view (Ok entry) = Ok (record { to = entry.to; kind = entry.kind; name = entry.name.now })
entry_view (Err fault) = Err fault

-- ---- extents of files ("EXTENT_DATA": compression, encryption, other_encoding, type, disk_bytenr, offset, num_bytes)

-- how the bytes are written; compression is looked at first
abbrev pub coding_of : List ℕ → Coding
coding_of item =
    if not (field 1 item 16 == 0) then Compressed else
    if not (field 1 item 17 == 0) || not (field 2 item 18 == 0) then Encrypted else Plain

-- where the bytes of a regular extent come from; disk_bytenr 0 is a hole
abbrev pub regular_of : List ℕ → Source
regular_of item = if field 8 item 21 == 0 then Zeros (field 8 item 45) else Regular (field 8 item 21) (field 8 item 37) (field 8 item 45)

-- the extent in an item that stands at this byte of the disk, at this offset in its file, or the first check that fails
unfoldable pub extent_of : ℕ → ℕ → List ℕ → Result Extent ItemFault
extent_of offset place item =
    let extent : Source → Result Extent ItemFault = λ source. Ok (record { offset = offset; coding = coding_of item; source = source }) in
    if nat_lt (length item) 21 then Err Size else
    if field 1 item 20 == 0 then (if length item == 21 then Err Size else extent (Inline (place + 21) (length item - 21))) else
    if field 1 item 20 == 1 then (if not (length item == 53) then Err Size else extent (regular_of item)) else
    if field 1 item 20 == 2 then (if not (length item == 53) then Err Size else extent (Zeros (field 8 item 45))) else Err Kind

-- how many bytes of its file a source has
abbrev pub source_length : Source → ℕ
source_length (Inline at length) = length
source_length (Regular at offset length) = length
source_length (Zeros length) = length

abbrev pub length_of : Extent → ℕ
length_of extent = source_length extent.source
