-- What a finish leaves, from what holds of each answer.
use Rattle.std.proofs.Common.{◌≡◌, ◌++◌, ◌∷◌, [], Option, Result, Ok, Err, OnOk, IsErrOf, true, false, refl}
use Rattle.block_table.specs.declared.batch.Batch.{Batch}
use Rattle.disk_model.specs.Disk.{GoesOn, GoesOnUntil, IfBoth, TellsMore, Told}
use Rattle.disk_model.specs.declared.fault.DeviceFault.{DeviceFault}
use Rattle.disk_model.specs.declared.fault.DeviceFault.TheVariants as fault
use Rattle.batch_write.specs.Batch.{super_call}
use Rattle.device_side.specs.Device.{Device, after_done, after_tried}
use Rattle.device_side.specs.Finish.{IsFinishOf, IsStopped, calls_ahead}
use Rattle.device_side.proofs.Joining.{both_weaker}

pub finish_is : (before after : Device) (batch : Batch) (result : Result (Unit {0}) DeviceFault) (old new : Option Told)
    → OnOk result (after ≡ after_done before batch) → (IsErrOf result (fault.Disk true) → after ≡ after_tried before batch)
    → OnOk result (TellsMore old new (calls_ahead before batch ++ super_call batch.superblock.value ∷ []))
    → (IsErrOf result (fault.Disk true) → IfBoth old new (λ x y. GoesOnUntil x y (calls_ahead before batch) (super_call batch.superblock.value)))
    → (IsErrOf result (fault.Disk false) → IfBoth old new (IsStopped before after batch))
    → IfBoth old new (IsFinishOf before after batch result)
finish_is before after batch (Ok done) old new ok tried calls last stopped =
    both_weaker (λ x y. GoesOn x y (calls_ahead before batch ++ super_call batch.superblock.value ∷ [])) (IsFinishOf before after batch (Ok done)) old new (λ x y goes. (ok, goes)) calls
finish_is before after batch (Err (fault.Disk true)) old new ok tried calls last stopped =
    both_weaker (λ x y. GoesOnUntil x y (calls_ahead before batch) (super_call batch.superblock.value)) (IsFinishOf before after batch (Err (fault.Disk true))) old new (λ x y goes. (tried refl, goes)) (last refl)
finish_is before after batch (Err (fault.Disk false)) old new ok tried calls last stopped = stopped refl
