-- How many bytes the items have that names, attributes and symlinks ask for.
use Rattle.std.specs.Prelude.{ℕ, ◌+◌, ◌&&◌, not, List, length, filter, sum_by, nat_eq}
use Rattle.std.specs.FinMap.{entries}
use Rattle.blk_base.specs.Crc.{name_hash_of, extref_hash_of}
use Rattle.flat_model.specs.Names.{FlatName, hashed_of}
use Rattle.flat_model.specs.Records.{Attributes, LinkRecord}

-- the most bytes of one item in a leaf ("Header": what is left of 4096 bytes beside the block's and one item's header)
abbrev pub most_item_bytes : ℕ
most_item_bytes = 3970

-- the most bytes of an INODE_REF item to which a name is added (own)
abbrev pub most_ref_bytes : ℕ
most_ref_bytes = 2000

-- the bytes of a name's entry in an INODE_REF item: index 8, length 2 and the name ("INODE_REF")
abbrev pub ref_length : FlatName → ℕ
ref_length name = 10 + length name.bytes

-- the bytes of a name's entry in an INODE_EXTREF item: parent 8, index 8, length 2 and the name ("INODE_EXTREF")
abbrev pub extref_length : FlatName → ℕ
extref_length name = 18 + length name.bytes

-- the bytes of a name's entry in a DIR_ITEM item: location 17, transid 8, two lengths of 2, type 1 and the name ("DIR_ITEM")
abbrev pub entry_length : FlatName → ℕ
entry_length name = 30 + length name.bytes

-- the bytes of the INODE_REF item of an inode and a directory: an entry for each near name of the two ("INODE_REF")
unfoldable pub ref_item_length : List FlatName → ℕ → ℕ → ℕ
ref_item_length names ino dir = sum_by ref_length (filter (λ name. name.near && (nat_eq name.ino ino && nat_eq name.dir dir)) names)

-- the bytes of the INODE_EXTREF item of an inode and a hash: an entry for each far name of that hash ("INODE_EXTREF")
unfoldable pub extref_item_length : List FlatName → ℕ → ℕ → ℕ
extref_item_length names ino hash = sum_by extref_length (filter (λ name. not name.near && (nat_eq name.ino ino && nat_eq (extref_hash_of name.dir name.bytes) hash)) names)

-- the bytes of the DIR_ITEM item of a directory and a hash: an entry for each of its names of that hash ("DIR_ITEM")
unfoldable pub dir_item_length : List FlatName → ℕ → ℕ → ℕ
dir_item_length names dir hash = sum_by entry_length (hashed_of names dir hash)

-- the bytes of an attribute's entry: as a name's entry in a DIR_ITEM item, and the value ("XATTR_ITEM")
abbrev pub attribute_length : List ℕ × List ℕ → ℕ
attribute_length attribute = 30 + length attribute.0 + length attribute.1

-- the bytes of the XATTR_ITEM item of these attributes and a hash: an entry for each attribute whose name has that hash ("XATTR_ITEM")
unfoldable pub xattr_item_length : Attributes → ℕ → ℕ
xattr_item_length attributes hash = sum_by attribute_length (filter (λ attribute. nat_eq (name_hash_of attribute.0) hash) (entries attributes))

-- the bytes of a symlink's EXTENT_DATA item: 21, and the target inline ("EXTENT_DATA")
abbrev pub link_extent_length : LinkRecord → ℕ
link_extent_length link = 21 + length link.target
