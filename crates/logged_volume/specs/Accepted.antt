-- Which flat logs a mount accepts over a committed subvolume.
use Rattle.std.specs.Prelude.{◌≡◌, ◌≢◌, ℕ, ◌≤◌, List, Some, None, Contains, IsTrue}
use Rattle.std.specs.FinMap.{get}
use Rattle.flat_model.specs.declared.view.Kind.{Kind}
use Rattle.flat_model.specs.declared.view.Kind.TheVariants.{File, Dir, Link}
use Rattle.flat_model.specs.Records.{InodeRecord, kind_of, at_creation}
use Rattle.flat_model.specs.Names.{FlatName, is_name_set}
use Rattle.flat_model.specs.Lengths.{most_item_bytes, dir_item_length}
use Rattle.flat_model.specs.Contents.{most_file_bytes}
use Rattle.flat_model.specs.Coherent.{KeepAttributeLimits, KeepsBlockLimits, KeepsLinkLimits}
use Rattle.flat_model.specs.Volume.{Subvolume}
use Rattle.logged_volume.specs.FlatLog.{FileChanges, WholeInode, WholeFile, WholeDir, WholeLink, FlatLog, is_logged}
use Rattle.logged_volume.specs.Replay.{names_left}

-- what kind of inode a whole one is ("INODE_ITEM": mode)
abbrev pub kind_of_whole : WholeInode → Kind
kind_of_whole (WholeFile changes) = File
kind_of_whole (WholeDir dir) = Dir
kind_of_whole (WholeLink link) = Link

-- what the log has of a file keeps a file's limits: at most 16,777,216 bytes, and each block that it brings keeps its own (own limits)
pub record KeepsChangeLimits (changes : FileChanges) : Type 0 where
  pub size : changes.size ≤ most_file_bytes
  pub blocks : (number : ℕ) (bytes : List ℕ) → get changes.blocks number ≡ Some bytes → KeepsBlockLimits changes.size number bytes

-- a whole inode keeps the limits of its kind and of its attributes (own limits)
abbrev pub KeepsWholeLimits : WholeInode → Type 0
KeepsWholeLimits (WholeFile changes) = KeepAttributeLimits changes.attributes × KeepsChangeLimits changes
KeepsWholeLimits (WholeDir dir) = KeepAttributeLimits dir.attributes
KeepsWholeLimits (WholeLink link) = KeepAttributeLimits link.attributes × KeepsLinkLimits link

-- among these names no directory has one index twice or one name twice, and none needs an item that no leaf holds ("DIR_INDEX", "DIR_ITEM")
pub record AreApart (names : List FlatName) : Type 0 where
  pub indexes : (one two : FlatName) → Contains names one → Contains names two → one.dir ≡ two.dir → one.index ≡ two.index → one ≡ two
  pub bytes : (one two : FlatName) → Contains names one → Contains names two → one.dir ≡ two.dir → one.bytes ≡ two.bytes → one ≡ two
  pub entries : (dir hash : ℕ) → dir_item_length names dir hash ≤ most_item_bytes

-- a log is accepted over a committed subvolume (own)
pub record IsAccepted (committed : Subvolume) (log : FlatLog) : Type 0 where
  -- its names are a set in order, each of an inode that it has, and none of inode 256
  pub in_order : IsTrue (is_name_set log.names)
  pub named : (name : FlatName) → Contains log.names name → IsTrue (is_logged log name.ino)
  pub root_has_no_name : (name : FlatName) → Contains log.names name → name.ino ≢ 256
  -- it has an inode whole or existing, not both, and of C's kind where C has it
  pub one_item : (ino : ℕ) (whole : WholeInode) → get log.whole ino ≡ Some whole → get log.existing ino ≡ None
  pub whole_kinds : (ino : ℕ) (was : InodeRecord) (whole : WholeInode)
      → get committed.inodes ino ≡ Some was → get log.whole ino ≡ Some whole → kind_of was ≡ kind_of_whole whole
  pub existing_kinds : (ino : ℕ) (was inode : InodeRecord)
      → get committed.inodes ino ≡ Some was → get log.existing ino ≡ Some inode → kind_of was ≡ kind_of inode
  -- whole inodes keep their limits, existing ones are as at creation
  pub limits : (ino : ℕ) (whole : WholeInode) → get log.whole ino ≡ Some whole → KeepsWholeLimits whole
  pub created : (ino : ℕ) (inode : InodeRecord) → get log.existing ino ≡ Some inode → at_creation inode ≡ inode
  -- the names that replay leaves are apart
  pub apart : AreApart (names_left committed log)
