-- How a volume goes on in its run: what stays, and what comes.
use Rattle.std.specs.Prelude.{◌≡◌, ◌<◌, ◌≤◌, ◌⊎◌, ℕ, Option, Some, None, Contains, is_some}
use Rattle.std.specs.FinMap.{get}
use Rattle.flat_model.specs.Records.{InodeRecord, at_creation}
use Rattle.flat_model.specs.Names.{FlatName}
use Rattle.flat_model.specs.Volume.{Subvolume, Volume, RunSub, RunVolume, last_index_in}

-- a subvolume in its run has gone on to another (own)
pub record HasAdvancedSub (before after : RunSub) : Type 0 where
  -- the numbers beside it only rise
  pub last_ino : before.numbers.last_ino ≤ after.numbers.last_ino
  pub last_index : before.numbers.last_index ≤ after.numbers.last_index
  pub dir_indexes : (dir : ℕ) → last_index_in before.numbers dir ≤ last_index_in after.numbers dir
  -- an inode that stays keeps its kind, and a symlink its target
  pub kinds : (ino : ℕ) (old new : InodeRecord) → get before.sub.inodes ino ≡ Some old → get after.sub.inodes ino ≡ Some new → at_creation new ≡ at_creation old
  -- the number of a new inode is above all that the subvolume has had
  pub new_inos : (ino : ℕ) (new : InodeRecord) → get before.sub.inodes ino ≡ None → get after.sub.inodes ino ≡ Some new → before.numbers.last_ino < ino
  -- the index of a new name is above all that its directory has had
  pub new_names : (name : FlatName) → Contains after.sub.names name → Contains before.sub.names name ⊎ (last_index_in before.numbers name.dir < name.index)

-- a volume in its run has gone on to another: it has the same subvolumes, and each has gone on (own)
pub record HasAdvanced (before after : RunVolume) : Type 0 where
  pub subvolumes : (id : ℕ) → is_some (get after id) ≡ is_some (get before id)
  pub each : (id : ℕ) (one two : RunSub) → get before id ≡ Some one → get after id ≡ Some two → HasAdvancedSub one two

-- the record of each inode that is new in the later volume is its record at creation (own)
abbrev pub AreAtCreation : RunVolume → RunVolume → Type 0
AreAtCreation before after =
    (id ino : ℕ) (one two : RunSub) (new : InodeRecord) → get before id ≡ Some one → get after id ≡ Some two → get one.sub.inodes ino ≡ None → get two.sub.inodes ino ≡ Some new → new ≡ at_creation new

-- a volume has a name in a subvolume
pub record HasName (volume : Volume) (id : ℕ) (name : FlatName) : Type 0 where
  pub sub : Subvolume
  pub there : get volume id ≡ Some sub
  pub has : Contains sub.names name

-- a volume has an inode in a subvolume, with this record
pub record HasInode (volume : Volume) (id ino : ℕ) (inode : InodeRecord) : Type 0 where
  pub sub : Subvolume
  pub there : get volume id ≡ Some sub
  pub has : get sub.inodes ino ≡ Some inode

-- an inode with this record is there before, and isn't there behind
pub record GoesFrom (before after : RunVolume) (id ino : ℕ) (inode : InodeRecord) : Type 0 where
  pub one : RunSub
  pub two : RunSub
  pub here : get before id ≡ Some one
  pub behind : get after id ≡ Some two
  pub there : get one.sub.inodes ino ≡ Some inode
  pub gone : get two.sub.inodes ino ≡ None
