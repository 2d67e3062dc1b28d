-- How many blocks have to be free for an operation, and how many it may take.
use Rattle.std.specs.Prelude.{ℕ, ◌+◌, ◌*◌, cond, List, [], ◌∷◌, map, length, filter, Option, Some, None, nat_eq, nat_le}
use Rattle.std.specs.List.{list_any}
use Rattle.std.specs.FinMap.{get, remove, keys, len}
use Rattle.blk_base.specs.Crc.{name_hash_of}
use Rattle.flat_model.specs.declared.op.Op.{Op}
use Rattle.flat_model.specs.declared.op.Op.TheVariants.{Create, Mkdir, Symlink, Link, Unlink, Rmdir, Rename, Exchange, Lookup, Write, Truncate, Read, SetAttr, DelAttr, GetAttr}
use Rattle.flat_model.specs.Records.{Attributes, FileRecord, InodeRecord, FileInode, DirInode, LinkInode}
use Rattle.flat_model.specs.Names.{remove_name, links_of}
use Rattle.flat_model.specs.Contents.{block_bytes}
use Rattle.flat_model.specs.Volume.{Subvolume, RunVolume}
use Rattle.flat_model.specs.Walk.{WalkEnd, AtRoot, AtSlot, Missing, Blocked, walk, record_at, is_one_inode}
use Rattle.flat_model.specs.Operations.{file_there, attributes_there}
use Rattle.flat_model.specs.Step.{place_of, step}
use Rattle.flat_model.specs.Refusal.{is_refusal}

-- ---- what an operation removes

-- how many different numbers a list has
abbrev pub count_different : List ℕ → ℕ
count_different [] = 0
count_different (number ∷ numbers) = cond (list_any (nat_eq number) numbers) (count_different numbers) (1 + count_different numbers)

-- the hashes of the names of attributes ("XATTR_ITEM": key offset)
abbrev pub attribute_hashes : Attributes → List ℕ
attribute_hashes attributes = map name_hash_of (keys attributes)

-- how many XATTR items attributes have: one for each hash ("XATTR_ITEM")
abbrev pub attribute_items : Attributes → ℕ
attribute_items attributes = count_different (attribute_hashes attributes)

-- how many data blocks, inline extents and XATTR items an inode has ("EXTENT_DATA", "XATTR_ITEM")
abbrev pub blocks_and_items : InodeRecord → ℕ
blocks_and_items (FileInode file) = len file.blocks + attribute_items file.attributes
blocks_and_items (DirInode dir) = attribute_items dir.attributes
blocks_and_items (LinkInode link) = 1 + attribute_items link.attributes

-- those of the inode, where there is one
abbrev pub blocks_and_items_there : Option InodeRecord → ℕ
blocks_and_items_there None = 0
blocks_and_items_there (Some inode) = blocks_and_items inode

-- those that go with the name at the end of a walk: its inode's, where that has no other name ("INODE_ITEM": nlink)
abbrev pub gone_with : Subvolume → WalkEnd → ℕ
gone_with sub AtRoot = 0
gone_with sub (AtSlot dir bytes None) = 0
gone_with sub (AtSlot dir bytes (Some name)) = cond (nat_eq (links_of (remove_name name sub.names) name.ino) 0) (blocks_and_items_there (get sub.inodes name.ino)) 0
gone_with sub Missing = 0
gone_with sub Blocked = 0

-- how many data blocks go where a file gets this size: those wholly past it ("EXTENT_DATA")
abbrev pub blocks_past : FileRecord → ℕ → ℕ
blocks_past file size = length (filter (λ number. nat_le size (number * block_bytes)) (keys file.blocks))

-- how many XATTR items go with an attribute: none where another has the same hash ("XATTR_ITEM")
abbrev pub items_with : Attributes → List ℕ → ℕ
items_with attributes name = cond (list_any (nat_eq (name_hash_of name)) (attribute_hashes (remove attributes name))) 0 1

-- how many data blocks, inline extents and XATTR items an operation removes from a subvolume, where it is done
abbrev pub removed_from : Subvolume → Op → ℕ
removed_from sub (Unlink place) = gone_with sub (walk sub place.path)
removed_from sub (Rmdir place) = gone_with sub (walk sub place.path)
removed_from sub (Rename old new) = cond (is_one_inode (walk sub old.path) (walk sub new.path)) 0 (gone_with sub (walk sub new.path))
removed_from sub (Truncate place size) = blocks_past (file_there (record_at sub (walk sub place.path))) size
removed_from sub (DelAttr place name) = items_with (attributes_there (record_at sub (walk sub place.path))) name
removed_from sub op = 0

-- how many an operation removes from a volume; its answer doesn't depend on the indexes of its names
unfoldable pub removed_by : RunVolume → Op → ℕ
removed_by run op =
    cond (is_refusal (step run op []).answer) 0 (elim (get run (place_of op).sub.0) [ None ↦ 0 | Some sub ↦ removed_from sub.sub op ])

-- ---- blocks

-- how many blocks have to be free for an operation that removes nothing (own)
abbrev pub least_need : Op → ℕ
least_need (Create place) = 2560
least_need (Mkdir place) = 2560
least_need (Symlink place target) = 2560
least_need (Link old new) = 2560
least_need (Unlink place) = 1536
least_need (Rmdir place) = 1536
least_need (Rename old new) = 2560
least_need (Exchange one two) = 2560
least_need (Lookup place) = 0
least_need (Write place offset text) = 2560
least_need (Truncate place size) = 1536
least_need (Read place offset count) = 0
least_need (SetAttr place name value) = 2560
least_need (DelAttr place name) = 1536
least_need (GetAttr place name) = 0

-- how many blocks have to be free for an operation: 2 more for each that it removes, and none where it is refused (own)
unfoldable pub need : RunVolume → Op → ℕ
need run op = cond (is_refusal (step run op []).answer) 0 (least_need op + 2 * removed_by run op)

-- the most blocks that an operation takes: 512, and 2 for each that it removes (own)
unfoldable pub charge : RunVolume → Op → ℕ
charge run op = 512 + 2 * removed_by run op
