-- What a finish of a commit leaves, by its answer: what the device knows, and what the disk's record tells.
use Rattle.std.specs.Prelude.{◌≡◌, ◌++◌, ◌∷◌, [], List, Result, Ok, Err, true, false}
use Rattle.block_table.specs.declared.batch.Batch.{Batch}
use Rattle.disk_model.specs.declared.fault.DeviceFault.{DeviceFault}
use Rattle.disk_model.specs.declared.fault.DeviceFault.TheVariants as fault
use Rattle.disk_model.specs.Disk.{Call, GoesOn, GoesOnUntil, IsCutOff, Told}
use Rattle.batch_write.specs.Batch.{settle_calls, super_call}
use Rattle.device_side.specs.Device.{Device, after_done, after_tried, again_calls, rewritten, to_write}

-- the calls ahead of the write of the commit's own superblock
abbrev pub calls_ahead : Device → Batch → List Call
calls_ahead device batch = again_calls device.failed ++ settle_calls (to_write device batch)

-- The commit ended before the write of its own superblock. Either the superblock whose write had failed was written again, and failed again: then it is still
-- the one that failed. Or it is written, where there was one, and the calls behind it were cut off (own).
pub data IsStopped (before after : Device) (batch : Batch) (old new : Told) : Type 0 where
  AtSuper : after ≡ before → IsCutOff old new (again_calls before.failed) → IsStopped before after batch old new
  AtBlocks : after ≡ rewritten before → (mid : Told) → GoesOn old mid (again_calls before.failed)
      → IsCutOff mid new (settle_calls (to_write before batch)) → IsStopped before after batch old new

-- A finish gave this answer: its calls were all made (Ok), or the last of them failed (it was tried), or one ahead of it (own).
abbrev pub IsFinishOf : (before after : Device) → Batch → Result (Unit {0}) DeviceFault → (old new : Told) → Type 0
IsFinishOf before after batch (Ok done) old new =
    (after ≡ after_done before batch) × GoesOn old new (calls_ahead before batch ++ super_call batch.superblock.value ∷ [])
IsFinishOf before after batch (Err (fault.Disk true)) old new =
    (after ≡ after_tried before batch) × GoesOnUntil old new (calls_ahead before batch) (super_call batch.superblock.value)
IsFinishOf before after batch (Err (fault.Disk false)) old new = IsStopped before after batch old new
