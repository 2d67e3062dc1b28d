-- What replay makes of a committed subvolume and its log.
use Rattle.std.specs.Prelude.{ℕ, ◌+◌, ◌*◌, Bool, cond, not, ◌&&◌, ◌||◌, List, ◌++◌, Option, Some, None, filter, nat_eq, nat_le, nat_lt}
use Rattle.std.specs.List.{list_any}
use Rattle.std.specs.FinMap.{empty, get, keys, retain_keys}
use Rattle.flat_model.specs.Records.{Blocks, InodeRecord, FileInode, DirInode, LinkInode}
use Rattle.flat_model.specs.Names.{FlatName, name_set, links_of}
use Rattle.flat_model.specs.Contents.{block_bytes}
use Rattle.flat_model.specs.Volume.{Subvolume}
use Rattle.logged_volume.specs.Numbers.{map_of}
use Rattle.logged_volume.specs.FlatLog.{FileChanges, WholeInode, WholeFile, WholeDir, WholeLink, FlatLog, is_logged, is_dropped}

-- the blocks of a file's record, none of another
abbrev pub blocks_of : Option InodeRecord → Blocks
blocks_of None = empty
blocks_of (Some (FileInode file)) = file.blocks
blocks_of (Some (DirInode dir)) = empty
blocks_of (Some (LinkInode link)) = empty

-- whether a hole covers the block
abbrev pub is_in_hole : List (ℕ × ℕ) → ℕ → Bool
is_in_hole holes number = list_any (λ hole. nat_le hole.0 number && nat_lt number (hole.0 + hole.1)) holes

-- a block after replay: the log's where it has it; none where a hole covers it or it lies wholly past the size; else C's ("EXTENT_DATA")
abbrev pub replayed_block : Blocks → FileChanges → ℕ → Option (List ℕ)
replayed_block old changes number = elim (get changes.blocks number) [
  | None ↦ cond (is_in_hole changes.holes number || nat_le changes.size (number * block_bytes)) None (get old number)
  | Some bytes ↦ Some bytes
]

-- the record of a whole inode after replay, from C's where C has one (after the kernel's overwrite_item and replay_one_extent)
unfoldable pub replayed_inode : Option InodeRecord → WholeInode → InodeRecord
replayed_inode was (WholeFile changes) = FileInode (record {
  attributes = changes.attributes;
  size = changes.size;
  blocks = map_of (keys changes.blocks ++ keys (blocks_of was)) (replayed_block (blocks_of was) changes);
})
replayed_inode was (WholeDir dir) = DirInode dir
replayed_inode was (WholeLink link) = LinkInode link

-- an inode's record after replay: that of a whole inode is the log's; else it is C's, and where C lacks it the existing one's
abbrev pub replayed_record : Subvolume → FlatLog → ℕ → Option InodeRecord
replayed_record sub log ino = elim (get log.whole ino) [
  | None ↦ elim (get sub.inodes ino) [ None ↦ get log.existing ino | Some inode ↦ Some inode ]
  | Some whole ↦ Some (replayed_inode (get sub.inodes ino) whole)
]

-- first, each name that lies in a range and has no equal entry goes (after the kernel's replay_dir_deletes)
abbrev pub drop_ranged : FlatLog → Subvolume → Subvolume
drop_ranged log sub = record sub { names = filter (λ name. not (is_dropped log name)) sub.names }

-- then all names of the inodes that the log has (own order)
abbrev pub drop_logged : FlatLog → Subvolume → Subvolume
drop_logged log sub = record sub { names = filter (λ name. not (is_logged log name.ino)) sub.names }

-- then the log's names come (after the kernel's add_inode_ref)
abbrev pub add_logged : FlatLog → Subvolume → Subvolume
add_logged log sub = record sub { names = name_set (log.names ++ sub.names) }

-- then the log's records
abbrev pub take_records : FlatLog → Subvolume → Subvolume
take_records log sub = record sub { inodes = map_of (keys sub.inodes ++ keys log.whole ++ keys log.existing) (replayed_record sub log) }

-- then inodes without names go, but not inode 256 (after the kernel's fixup_inode_link_counts)
abbrev pub drop_nameless : Subvolume → Subvolume
drop_nameless sub = record sub { inodes = retain_keys sub.inodes (λ ino. nat_eq ino 256 || nat_lt 0 (links_of sub.names ino)) }

-- replay of a log over a committed subvolume (after the kernel's btrfs_recover_log_trees, own order)
unfoldable pub replay : Subvolume → FlatLog → Subvolume
replay committed log = drop_nameless (take_records log (add_logged log (drop_logged log (drop_ranged log committed))))

-- the names that replay leaves: the logged ones, and those of C that it doesn't drop
unfoldable pub names_left : Subvolume → FlatLog → List FlatName
names_left committed log = name_set (log.names ++ filter (λ name. not (is_dropped log name) && not (is_logged log name.ino)) committed.names)
