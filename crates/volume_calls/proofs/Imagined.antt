-- A record that goes with what a finish answered, over a disk that tells none; and that a record's image keeps its size.
use Rattle.std.proofs.Common.{◌≡◌, ◌⊎◌, ℕ, true, false, List, [], ◌∷◌, ◌++◌, length, Option, None, Some, Result, Ok, Err, refl, sym, ap, subst, ◌∙◌, inl, inr, append-nil}
use Rattle.blk_base.specs.Trees.{AtBlock}
use Rattle.block_table.specs.declared.batch.Batch.{Batch}
use Rattle.batch_write.specs.Batch.{settle_calls, super_call, write_call}
use Rattle.device_side.specs.Device.{Device, after_done, after_tried, again_calls, rewritten, to_write}
use Rattle.device_side.specs.Finish.{AtBlocks, AtSuper, IsFinishOf, IsStopped, calls_ahead}
use Rattle.disk_model.proofs.CrashLaws.{after_calls-length}
use Rattle.disk_model.specs.Disk.{Call, GoesOn, Held, IsCutOff, Told, held_now, image_now}
use Rattle.disk_model.proofs.CrashLaws.{held_now-goes_on}
use Rattle.disk_model.specs.declared.fault.DeviceFault.{DeviceFault}
use Rattle.disk_model.specs.declared.fault.DeviceFault.TheVariants as fault

-- the record with these calls behind it
abbrev pub told_with : Told → List Call → Told
told_with old added = record old { calls = old.calls ++ added }

goes_with : (old : Told) (added : List Call) → GoesOn old (told_with old added) added
goes_with old added = record { first = refl; supers = refl; calls = refl }

goes_by_none : (old : Told) → GoesOn old old []
goes_by_none old = record { first = refl; supers = refl; calls = sym (append-nil old.calls) }

-- the first of some calls failed without a trace
cut_at_first : (old : Told) (call : Call) (rest : List Call) → IsCutOff old old (call ∷ rest)
cut_at_first old call rest = record { done = []; failed = call; rest = rest; are = refl; goes_on = inr (goes_by_none old) }

cut_blocks : (old : Told) (blocks : List AtBlock) → IsCutOff old old (settle_calls blocks)
cut_blocks old [] = cut_at_first old (Call.Flush true) []
cut_blocks old (block ∷ blocks) = cut_at_first old (write_call block) (settle_calls blocks)

-- where a finish leaves the device, by its answer
abbrev pub LeavesDevice : (before after : Device) → Batch → Result (Unit {0}) DeviceFault → Type 0
LeavesDevice before after batch (Ok done) = after ≡ after_done before batch
LeavesDevice before after batch (Err (fault.Disk true)) = after ≡ after_tried before batch
LeavesDevice before after batch (Err (fault.Disk false)) = (after ≡ before) ⊎ (after ≡ rewritten before)

stopped_same : (before after : Device) (batch : Batch) (old : Told) (failed : Option (List ℕ)) → before.failed ≡ failed → after ≡ before → IsStopped before after batch old old
stopped_same before after batch old None is same =
    AtBlocks (same ∙ ap (λ (f : Option (List ℕ)). record before { failed = f }) is) old (subst (λ (f : Option (List ℕ)). GoesOn old old (again_calls f)) (sym is) (goes_by_none old)) (cut_blocks old (to_write before batch))
stopped_same before after batch old (Some superblock) is same =
    AtSuper same (subst (λ (f : Option (List ℕ)). IsCutOff old old (again_calls f)) (sym is) (cut_at_first old (super_call superblock) []))

-- a stop that goes with either
stopped : (before after : Device) (batch : Batch) (old : Told) → (after ≡ before) ⊎ (after ≡ rewritten before) → (new : Told) × IsStopped before after batch old new
stopped before after batch old (inl same) = (old, stopped_same before after batch old before.failed refl same)
stopped before after batch old (inr again) =
    let mid : Told = told_with old (again_calls before.failed) in
    (mid, AtBlocks again mid (goes_with old (again_calls before.failed)) (cut_blocks mid (to_write before batch)))

-- for each answer of a finish there is a record that it may leave
pub imagined : (before after : Device) (batch : Batch) (result : Result (Unit {0}) DeviceFault) (old : Told) → LeavesDevice before after batch result → (new : Told) × IsFinishOf before after batch result old new
imagined before after batch (Ok done) old is =
    let added : List Call = calls_ahead before batch ++ super_call batch.superblock.value ∷ [] in
    (told_with old added, (is, goes_with old added))
imagined before after batch (Err (fault.Disk true)) old is = (told_with old (calls_ahead before batch), (is, inr (goes_with old (calls_ahead before batch))))
imagined before after batch (Err (fault.Disk false)) old is = stopped before after batch old is

-- the image of a record keeps its size
pub image_stays : (old new : Told) (added : List Call) → GoesOn old new added → length (image_now new) ≡ length (image_now old)
image_stays old new added goes =
    ap (λ (held : Held). length held.image) (held_now-goes_on old new added goes) ∙ after_calls-length (held_now old) added
