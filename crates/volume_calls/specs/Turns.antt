-- A call between two of its turns.
use Rattle.std.specs.Prelude.{◌≡◌, ◌≢◌, ◌≤◌, ◌<◌, ℕ, List, length, None, Some, IsErr, ⊤}
use Rattle.blk_base.specs.declared.key.Marks.{Marks}
use Rattle.block_table.specs.declared.batch.Batch.{Batch}
use Rattle.call_steps.specs.declared.call.Call.{Call}
use Rattle.call_steps.specs.declared.next.Next.{Next}
use Rattle.call_steps.specs.declared.next.Next.TheVariants as nexts
use Rattle.call_steps.specs.Orderly.{IsOrderly}
use Rattle.call_steps.specs.Standing.{IsAt, IsOver, IsWaiting}
use Rattle.call_steps.specs.Steps.{IsBack, marks_after}
use Rattle.commit_core.specs.Coming.{call_in}
use Rattle.commit_core.specs.Few.{HasFew, IsJustSealed}
use Rattle.commit_core.specs.declared.work.Outcome.{Outcome}
use Rattle.commit_core.specs.declared.work.Work.TheVariants as works
use Rattle.commit_core.specs.Holding.{IsFullOf}
use Rattle.commit_device.specs.Calls.{HoldsAtLeast}
use Rattle.commit_device.specs.Finish.{KnowsFailed}
use Rattle.commit_history.specs.Calls.{answer_of}
use Rattle.commit_history.specs.declared.event.Cover.TheVariants as covers
use Rattle.commit_images.specs.Scene.{Happening, Mounted, Scene}
use Rattle.device_side.specs.Device.{Device}
use Rattle.disk_model.specs.Disk.{HasRisen, held_now, image_now}
use Rattle.volume_calls.specs.Between.{Between}
use Rattle.volume_calls.specs.Calls.{BeginWith, HaveHappened}

-- A call that waits has made these events, with the calls of the device between them, and no other call is unfinished. What the disk's record says, and what
-- the device knows of a superblock whose write failed, goes with what happened; the volume has as many blocks as the core; and no more blocks are written than
-- there are (own).
pub record IsUnderWay (Has : Mounted → Scene → Type 0) (size : ℕ) (device : Device) (count : ℕ) (mounted : Mounted) (call : Call) (at now : Between)
    (happenings : List Happening) : Type 0 where
  pub has : Has mounted now.scene
  pub happened : HaveHappened mounted call.caller at now happenings
  pub begins : BeginWith call.request happenings
  pub orderly : IsOrderly mounted now.scene
  pub stands : IsAt call (call_in mounted now.scene call.caller)
  pub waits : IsWaiting call
  pub others : (other : ℕ) → other ≢ call.caller → IsOver (call_in mounted now.scene other)
  pub held : HoldsAtLeast (held_now now.told) now.scene.held
  pub knows : KnowsFailed device.failed now.scene.found
  pub image : length (image_now now.told) ≡ length mounted.image
  pub blocks : at.blocks ≡ size
  pub has_super : 16 < size
  pub fits : size ≤ count
  pub whole : length mounted.image ≡ count

-- the marks of a core's seals are those of the device
pub record AreMarks (marks : Marks) (device : Device) : Type 0 where
  pub done : marks.done ≡ device.marks.done
  pub tried : marks.tried ≡ device.marks.tried

-- It waits for a full commit, and none runs or has covered it (own).
pub record MayCommit (Has : Mounted → Scene → Type 0) (size : ℕ) (marks : Marks) (device : Device) (count : ℕ) (mounted : Mounted) (call : Call) (at now : Between)
    (happenings : List Happening) : Type 0 where
  pub under : IsUnderWay Has size device count mounted call at now happenings
  pub agree : AreMarks marks device
  pub idle : now.scene.batch ≡ None
  pub apart : IsFullOf mounted now.scene call.caller → ⊥
  pub uncovered : (call_in mounted now.scene call.caller).cover ≢ covers.Full

-- Its own full commit has covered it, which doesn't answer it, and none runs. So many blocks are in use, which are few, since no other event came in between (own).
pub record IsCommitted (Has : Mounted → Scene → Type 0) (size used : ℕ) (marks : Marks) (device : Device) (count : ℕ) (mounted : Mounted) (call : Call) (at now : Between)
    (happenings : List Happening) : Type 0 where
  pub under : IsUnderWay Has size device count mounted call at now happenings
  pub agree : AreMarks marks device
  pub idle : now.scene.batch ≡ None
  pub apart : IsFullOf mounted now.scene call.caller → ⊥
  pub covered : (call_in mounted now.scene call.caller).cover ≡ covers.Full
  pub unanswered : answer_of (call_in mounted now.scene call.caller) ≡ None
  pub few : HasFew mounted now.scene used

-- Its full commit is back from the device, whose marks are those that the core will have, and no event came since its seal (own).
pub record HasCommitBack (Has : Mounted → Scene → Type 0) (Out : Batch → Type 0) (size : ℕ) (marks : Marks) (device : Device) (count : ℕ) (mounted : Mounted) (call : Call)
    (at now : Between) (happenings : List Happening) (outcome : Outcome) : Type 0 where
  pub under : IsUnderWay Has size device count mounted call at now happenings
  pub agree : AreMarks (marks_after marks (Some outcome)) device
  pub back : IsBack Out mounted now.scene call.caller outcome
  pub just : IsJustSealed now.scene call.caller
  pub risen : IsErr outcome.result → HasRisen at.faults now.faults

-- a turn handed out a batch
abbrev pub HandsBatch : Next → Type 0
HandsBatch (nexts.Work (works.Finish batch)) = ⊤
HandsBatch other = ⊥
