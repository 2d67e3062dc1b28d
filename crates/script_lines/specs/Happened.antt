-- What happened in a run, from its begin to its end.
use Rattle.std.specs.Prelude.{◌≡◌, ◌≤◌, List, length}
use Rattle.commit_device.specs.Calls.{AreTold, calls_of}
use Rattle.commit_core.specs.Sealed.{CommitsStandWhole}
use Rattle.commit_images.specs.Admissible.{AreAdmissible}
use Rattle.commit_images.specs.Scene.{Happening, Mounted, scene_behind}
use Rattle.disk_model.specs.Disk.{Call, GoesOn}
use Rattle.volume_calls.specs.Between.{Between}

-- Events and calls of the device happened, all of which might come. Each commit that was handed out stands for its volume by what it reaches, and the disk's record went on by the
-- calls that they are, but perhaps for writes of superblocks that failed (own).
pub record AllHappened (mounted : Mounted) (before after : Between) : Type 0 where
  pub happenings : List Happening
  pub added : List Call
  pub admissible : AreAdmissible mounted before.scene happenings
  pub behind : after.scene ≡ scene_behind mounted.volume before.scene happenings
  pub commits : CommitsStandWhole (length mounted.image) happenings
  pub goes_on : GoesOn before.told after.told added
  pub told : AreTold (calls_of mounted.volume before.scene happenings) added
  pub counted : before.faults ≤ after.faults
