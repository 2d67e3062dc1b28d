-- What a finish of a commit needs, and what holds behind it.
use Rattle.std.specs.Prelude.{◌≡◌, ◌⊎◌, ℕ, true, false, List, [], ◌∷◌, All, length, take, Option, Some, None, Result, Ok, Err}
use Rattle.block_table.specs.declared.batch.Batch.{Batch}
use Rattle.disk_model.specs.Disk.{Call, GoesOn, Told, held_now, image_now}
use Rattle.disk_model.specs.declared.fault.DeviceFault.{DeviceFault}
use Rattle.disk_model.specs.declared.fault.DeviceFault.TheVariants as fault
use Rattle.device_side.specs.Device.{Device, to_write}
use Rattle.commit_images.specs.Admissible.{AreAdmissible}
use Rattle.commit_images.specs.Scene.{Commit, Happening, HasFailed, IsWritten, Mounted, NotTried, Scene, scene_behind}
use Rattle.commit_core.specs.Coming.{IsDeviceCall, numbered}
use Rattle.commit_core.specs.Sealed.{HavePlaces, IsReadyToWrite}
use Rattle.commit_device.specs.Calls.{AreTold, HoldsAtLeast, calls_of}

-- what a device knows of a superblock whose write failed, by those that a crash may find: nothing where it may find one alone, and else the last one (own)
abbrev pub KnowsFailed : Option (List ℕ) → List Commit → Type 0
KnowsFailed failed [] = ⊥
KnowsFailed failed (commit ∷ []) = failed ≡ None
KnowsFailed failed (commit ∷ other ∷ others) = failed ≡ Some commit.superblock

-- A commit may be finished: the batch is its own and is ready to be written, its blocks have places, and the disk's record and the device go with what happened
-- (own).
pub record MayFinish (scene : Scene) (commit : Commit) (device : Device) (batch : Batch) (old : Told) : Type 0 where
  pub held : HoldsAtLeast (held_now old) scene.held
  pub knows : KnowsFailed device.failed scene.found
  pub superblock : commit.superblock ≡ batch.superblock.value
  pub places : HavePlaces (length (image_now old)) (to_write device batch)
  pub ready : IsReadyToWrite scene (numbered (to_write device batch)) commit

-- How far the commit is behind a finish that gave this answer, and which superblocks a crash may find then: its own alone; its own beside the last one of those
-- that it might find before; or those that it might find before, or the last one of these alone, which was written again (own).
abbrev pub HasEnded : Result (Unit {0}) DeviceFault → Commit → (before behind : Scene) → Type 0
HasEnded (Ok done) commit before behind = (behind.progress ≡ IsWritten) × (behind.found ≡ commit ∷ [])
HasEnded (Err (fault.Disk true)) commit before behind =
    (behind.progress ≡ HasFailed) × (behind.found ≡ commit ∷ take 1 before.found)
HasEnded (Err (fault.Disk false)) commit before behind =
    (behind.progress ≡ NotTried) × ((behind.found ≡ before.found) ⊎ (behind.found ≡ take 1 before.found))

-- A commit was finished by these happenings, which may come: they are calls of the device alone, those that the disk's record went on by, but perhaps for the
-- write of the commit's superblock where it failed; and the record and the device go with what happened again (own).
pub record IsFinished (mounted : Mounted) (scene : Scene) (commit : Commit) (result : Result (Unit {0}) DeviceFault) (after : Device) (old new : Told)
    (happenings : List Happening) : Type 0 where
  pub added : List Call
  pub admissible : AreAdmissible mounted scene happenings
  pub calls_alone : All IsDeviceCall happenings
  pub goes_on : GoesOn old new added
  pub told : AreTold (calls_of mounted.volume scene happenings) added
  pub held : HoldsAtLeast (held_now new) (scene_behind mounted.volume scene happenings).held
  pub events : (scene_behind mounted.volume scene happenings).events ≡ scene.events
  pub batch : (scene_behind mounted.volume scene happenings).batch ≡ scene.batch
  pub ended : HasEnded result commit scene (scene_behind mounted.volume scene happenings)
  pub knows : KnowsFailed after.failed (scene_behind mounted.volume scene happenings).found
