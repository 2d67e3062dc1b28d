-- What is known of a mounted volume and its disk between two calls.
use Rattle.std.specs.Prelude.{◌≡◌, ◌≤◌, ◌<◌, ℕ, length, Option, None, ⊤}
use Rattle.blk_base.specs.declared.key.Marks.{Marks}
use Rattle.call_steps.specs.Orderly.{IsOrderly}
use Rattle.call_steps.specs.Standing.{IsOver}
use Rattle.commit_core.specs.Coming.{call_in}
use Rattle.commit_device.specs.Calls.{HoldsAtLeast}
use Rattle.commit_device.specs.Finish.{KnowsFailed}
use Rattle.commit_images.specs.Scene.{Mounted, Scene}
use Rattle.device_side.specs.Device.{Device}
use Rattle.disk_model.specs.Disk.{IfBoth, IfTold, Told, held_now, image_now}

-- What happened on the volume since its mount; the disk's record, where the disk tells it, or else one that goes with what happened; how often the disk has
-- failed; and how many blocks the volume has (own).
pub record Between : Type 0 where
  pub scene : Scene
  pub told : Told
  pub faults : ℕ
  pub blocks : ℕ

-- the disk tells this record, where it tells one, and has failed so often (own)
pub record IsDiskAt (record_now : Option Told) (count : ℕ) (at : Between) : Type 0 where
  pub told : IfTold record_now (λ now. now ≡ at.told)
  pub faults : count ≡ at.faults

-- a disk that told its record before tells it now, and no other does (own)
abbrev pub TellsStill : Option Told → Option Told → Type 0
TellsStill before now = IfBoth before now (λ old new. ⊤)

-- Between two calls no call is unfinished, and no commit runs. What the disk's record says, and what the device knows of a superblock whose write failed, goes
-- with what happened (own).
pub record GoesWith (mounted : Mounted) (device : Device) (at : Between) : Type 0 where
  pub orderly : IsOrderly mounted at.scene
  pub over : (caller : ℕ) → IsOver (call_in mounted at.scene caller)
  pub idle : at.scene.batch ≡ None
  pub held : HoldsAtLeast (held_now at.told) at.scene.held
  pub knows : KnowsFailed device.failed at.scene.found
  pub size : length (image_now at.told) ≡ length mounted.image

-- A core of so many blocks, whose seals have these marks, with the device that writes for it and a disk of so many blocks, between two calls: what the core keeps
-- goes with what happened, too (own).
pub record IsBetween (Has : Mounted → Scene → Type 0) (size : ℕ) (marks : Marks) (device : Device) (count : ℕ) (mounted : Mounted) (at : Between) : Type 0 where
  pub has : Has mounted at.scene
  pub goes : GoesWith mounted device at
  pub done : marks.done ≡ device.marks.done
  pub tried : marks.tried ≡ device.marks.tried
  pub blocks : at.blocks ≡ size
  pub has_super : 16 < size
  pub fits : size ≤ count
  pub whole : length mounted.image ≡ count
