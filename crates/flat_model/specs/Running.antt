-- What holds of a volume in a run at all times.
use Rattle.std.specs.Prelude.{◌≡◌, ℕ, ◌≤◌, Some, Contains}
use Rattle.std.specs.FinMap.{get}
use Rattle.flat_model.specs.Records.{InodeRecord}
use Rattle.flat_model.specs.Names.{FlatName}
use Rattle.flat_model.specs.Volume.{RunSub, RunVolume, last_index_in}
use Rattle.flat_model.specs.Coherent.{IsCoherent}

-- the numbers beside a subvolume cover it: no inode number and no index that it has is above them, and 1 stands for no index (own)
pub record AreCovered (run : RunSub) : Type 0 where
  pub inos : (ino : ℕ) (inode : InodeRecord) → get run.sub.inodes ino ≡ Some inode → ino ≤ run.numbers.last_ino
  pub indexes : (name : FlatName) → Contains run.sub.names name → name.index ≤ last_index_in run.numbers name.dir
  pub directories : (dir : ℕ) → last_index_in run.numbers dir ≤ run.numbers.last_index
  pub at_least_one : (dir : ℕ) → 1 ≤ last_index_in run.numbers dir

-- a subvolume in a run is sound: it is coherent, and the numbers beside it cover it (own)
pub record IsSound (run : RunSub) : Type 0 where
  pub coherent : IsCoherent run.sub
  pub covered : AreCovered run

-- a volume in a run is sound: each of its subvolumes is (own)
abbrev pub IsSoundVolume : RunVolume → Type 0
IsSoundVolume run = (id : ℕ) (sub : RunSub) → get run id ≡ Some sub → IsSound sub
