-- How many data blocks a volume has, and how many blocks its trees may need.
use Rattle.std.specs.Prelude.{ℕ, ◌+◌, ◌*◌, ◌&&◌, not, cond, List, [], ◌∷◌, length, map, filter, sum_by, nat_eq}
use Rattle.std.specs.List.{list_any}
use Rattle.std.specs.FinMap.{entries, len}
use Rattle.blk_base.specs.Crc.{name_hash_of, extref_hash_of}
use Rattle.flat_model.specs.Records.{InodeRecord, FileInode, DirInode, LinkInode}
use Rattle.flat_model.specs.Names.{FlatName}
use Rattle.flat_model.specs.Volume.{Subvolume, Volume}
use Rattle.flat_model.specs.Needs.{blocks_and_items}

-- how many different pairs a list has
abbrev pub count_pairs : List (ℕ × ℕ) → ℕ
count_pairs [] = 0
count_pairs (pair ∷ pairs) =
    cond (list_any (λ (other : ℕ × ℕ). nat_eq pair.0 other.0 && nat_eq pair.1 other.1) pairs) (count_pairs pairs) (1 + count_pairs pairs)

-- the INODE_REF items of names: one for each inode and directory of a near name ("INODE_REF")
abbrev pub ref_items : List FlatName → ℕ
ref_items names = count_pairs (map (λ (name : FlatName). (name.ino, name.dir)) (filter (λ (name : FlatName). name.near) names))

-- the INODE_EXTREF items: one for each inode and hash of a far name ("INODE_EXTREF")
abbrev pub extref_items : List FlatName → ℕ
extref_items names =
    count_pairs (map (λ (name : FlatName). (name.ino, extref_hash_of name.dir name.bytes)) (filter (λ (name : FlatName). not name.near) names))

-- the DIR_ITEM items: one for each directory and hash of its names ("DIR_ITEM")
abbrev pub entry_items : List FlatName → ℕ
entry_items names = count_pairs (map (λ (name : FlatName). (name.dir, name_hash_of name.bytes)) names)

-- how many items the tree of a subvolume has, where each data block counts as an extent item: inode items, the `..` of inode 256, refs, entries by hash and by
-- index, and blocks, inline extents and attributes ("File trees", own count of extents)
abbrev pub items_of : Subvolume → ℕ
items_of sub =
    len sub.inodes + 1 + ref_items sub.names + extref_items sub.names + entry_items sub.names + length sub.names
    + sum_by (λ (entry : ℕ × InodeRecord). blocks_and_items entry.1) (entries sub.inodes)

-- the most blocks of a tree of so many items (own)
abbrev pub most_tree_blocks : ℕ → ℕ
most_tree_blocks items = 2 * items + 1

-- the most tree blocks of a volume: those of each subvolume's tree, and of the root tree with an item for each ("ROOT_ITEM", own)
abbrev pub trees_room : Volume → ℕ
trees_room volume = sum_by (λ (entry : ℕ × Subvolume). most_tree_blocks (items_of entry.1)) (entries volume) + most_tree_blocks (len volume)

-- the data blocks of an inode ("EXTENT_DATA")
abbrev pub inode_blocks : InodeRecord → ℕ
inode_blocks (FileInode file) = len file.blocks
inode_blocks (DirInode dir) = 0
inode_blocks (LinkInode link) = 0

-- the data blocks of a volume ("EXTENT_DATA")
abbrev pub data_blocks : Volume → ℕ
data_blocks volume =
    sum_by (λ (entry : ℕ × Subvolume). sum_by (λ (inner : ℕ × InodeRecord). inode_blocks inner.1) (entries entry.1.inodes)) (entries volume)
