-- What the items of a log say, one by one, and what a flat log has: inodes, names, ranges, entries, attributes, and extents.
use Rattle.std.proofs.Common.{◌*◌, ◌/◌, ◌++◌, ℕ, cond, List, [], ◌∷◌, map, Option, Some, None, nat_eq, flat_map}
use Rattle.std.specs.FinMap.{get, keys}
use Rattle.blk_base.specs.declared.key.Key.{Key}
use Rattle.blk_base.specs.Crc.{name_hash_of, extref_hash_of}
use Rattle.blk_base.specs.Keys.{inode_item, inode_ref, inode_extref, xattr_item, dir_index, dir_log_index, extent_data}
use Rattle.blk_base.specs.Leaf.{Item}
use Rattle.blk_base.specs.Extents.{ExtentValue, Inline, Regular, Hole}
use Rattle.flat_model.specs.Records.{InodeRecord, FileInode, DirInode, LinkInode}
use Rattle.flat_model.specs.Names.{FlatName}
use Rattle.logged_volume.specs.FlatLog.{WholeInode, WholeFile, WholeDir, WholeLink, LogRange, LogEntry, FlatLog}
use Rattle.logged_volume.specs.Weight.{logged_inodes}
use Rattle.volume_image.specs.Subvolume.{make_key}
use Rattle.log_image.specs.LogItems.{extent_in_item, names_in_item, ranges_in_item, entries_in_item, pairs_in_item}

pub data Thing : Type 0 where
  AnInode : ℕ → Thing
  AName : FlatName → Thing
  ARange : LogRange → Thing
  AnEntry : LogEntry → Thing
  AnAttribute : ℕ → List ℕ → Thing
  ARun : ℕ → ℕ → Thing
  AHole : ℕ → ℕ → ℕ → Thing
  ATarget : ℕ → Thing

-- the key of the item that says it
abbrev pub name_key : FlatName → Key
name_key name = cond name.near (make_key name.ino inode_ref name.dir) (make_key name.ino inode_extref (extref_hash_of name.dir name.bytes))

abbrev pub key_of : Thing → Key
key_of (AnInode ino) = make_key ino inode_item 0
key_of (AName name) = name_key name
key_of (ARange range) = make_key range.dir dir_log_index range.first
key_of (AnEntry entry) = make_key entry.dir dir_index entry.index
key_of (AnAttribute ino name) = make_key ino xattr_item (name_hash_of name)
key_of (ARun ino number) = make_key ino extent_data (4096 * number)
key_of (AHole ino first count) = make_key ino extent_data (4096 * first)
key_of (ATarget ino) = make_key ino extent_data 0

-- ---- of items

abbrev pub extent_thing : ℕ → ℕ × ExtentValue → Thing
extent_thing ino extent = elim extent.1 [
  | Inline content ↦ ATarget ino
  | Regular at offset len ↦ ARun ino (extent.0 / 4096)
  | Hole len ↦ AHole ino (extent.0 / 4096) (len / 4096)
]

abbrev pub things_of_item : Item → List Thing
things_of_item item =
    cond (nat_eq item.0.kind inode_item) (AnInode item.0.objectid ∷ [])
    (cond (nat_eq item.0.kind inode_ref) (map AName (names_in_item item))
    (cond (nat_eq item.0.kind inode_extref) (map AName (names_in_item item))
    (cond (nat_eq item.0.kind xattr_item) (map (λ (pair : List ℕ × List ℕ). AnAttribute item.0.objectid pair.0) (pairs_in_item item))
    (cond (nat_eq item.0.kind dir_index) (map AnEntry (entries_in_item item))
    (cond (nat_eq item.0.kind dir_log_index) (map ARange (ranges_in_item item))
    (cond (nat_eq item.0.kind extent_data) (extent_thing item.0.objectid (extent_in_item item) ∷ []) []))))))

-- ---- of a flat log

abbrev pub things_whole : ℕ → Option WholeInode → List Thing
things_whole ino None = []
things_whole ino (Some (WholeFile changes)) =
    map (AnAttribute ino) (keys changes.attributes) ++ map (ARun ino) (keys changes.blocks) ++ map (λ (hole : ℕ × ℕ). AHole ino hole.0 hole.1) changes.holes
things_whole ino (Some (WholeDir dir)) = map (AnAttribute ino) (keys dir.attributes)
things_whole ino (Some (WholeLink link)) = map (AnAttribute ino) (keys link.attributes) ++ ATarget ino ∷ []

abbrev pub things_made : ℕ → Option InodeRecord → List Thing
things_made ino None = []
things_made ino (Some (FileInode file)) = []
things_made ino (Some (DirInode dir)) = []
things_made ino (Some (LinkInode link)) = ATarget ino ∷ []

abbrev pub things_of_inode : FlatLog → ℕ → List Thing
things_of_inode log ino = AnInode ino ∷ (things_made ino (get log.existing ino) ++ things_whole ino (get log.whole ino))

abbrev pub things_of_log : FlatLog → List Thing
things_of_log log = flat_map (things_of_inode log) (logged_inodes log) ++ map AName log.names ++ map ARange log.ranges ++ map AnEntry log.entries
