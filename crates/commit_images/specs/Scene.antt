-- Events of a mounted volume and calls of its device in one order, what they leave, and which may come.
use Rattle.std.specs.Prelude.{◌≡◌, ℕ, Bool, cond, List, [], ◌∷◌, ◌++◌, length, Option, Some, None, Contains, slice_get, slice_index_or}
use Rattle.disk_model.specs.Disk.{Call, Held, Image, IsImage, after_call, during_call}
use Rattle.flat_model.specs.Volume.{Volume}
use Rattle.commit_history.specs.declared.event.Event.{Event}
use Rattle.commit_history.specs.State.{State, mounted_state}
use Rattle.commit_history.specs.Effects.{state_of}
use Rattle.commit_history.specs.Survival.{next_volumes, tried_from}

-- ---- superblocks and what they lead to

-- A superblock with all that it leads to: its bytes, the number and the bytes of each block that it reaches, and the volume that a mount by it gives
-- ("Superblock").
pub record Commit : Type 0 where
  pub superblock : List ℕ
  pub blocks : List (ℕ × List ℕ)
  pub volume : Volume

-- the image has this superblock, and each block that it reaches
pub record HasCommit (image : Image) (commit : Commit) : Type 0 where
  pub superblock : slice_index_or image 16 [] ≡ commit.superblock
  pub blocks : (block : ℕ × List ℕ) → Contains commit.blocks block → slice_get image block.0 ≡ Some block.1

-- the superblock leads to a block of this number
abbrev pub Reaches : Commit → ℕ → Type 0
Reaches commit at = (block : ℕ × List ℕ) × Contains commit.blocks block × (block.0 ≡ at)

-- each image of so many blocks that has the superblock and all that it reaches stands for its volume
abbrev pub StandsFor : (Image → Volume → Type 0) → ℕ → Commit → Type 0
StandsFor Stands size commit = (image : Image) → IsImage image → length image ≡ size → HasCommit image commit → Stands image commit.volume

-- ---- what happens

-- what an event hands out to the device: nothing, the blocks of a subvolume's log, or those of a commit with its superblock (own)
pub data Handed : Type 0 where
  Nothing : Handed
  Part : (blocks : List (ℕ × List ℕ)) → Handed
  Batch : (blocks : List (ℕ × List ℕ)) (commit : Commit) → Handed

-- What happens, in its order: an event with what it hands out; or a call of the device with whether it answered Ok, and what a read of its block gives then. A
-- superblock that is written is that of the commit that runs, or the last one whose write failed, again (own).
pub data Happening : Type 0 where
  Comes : (event : Event) (handed : Handed) → Happening
  Writes : (at : ℕ) (bytes : List ℕ) (ok : Bool) (left : List ℕ) → Happening
  Flushes : (ok : Bool) → Happening
  WritesSuper : (ok : Bool) (left : List ℕ) → Happening
  WritesAgain : (ok : Bool) (left : List ℕ) → Happening

-- how far the superblock of the commit that runs is: not written yet, its write failed, or it is written (own)
pub data Progress : Type 0 where
  NotTried : Progress
  HasFailed : Progress
  IsWritten : Progress

-- What things are like behind all that happened. `found` has the superblocks that a crash may find, the last one first. `batch` is the commit that runs, and
-- `progress` how far its superblock is. `handed` has all blocks that were handed out, the last ones first, and `writable` those of them that may still be written
-- (own).
pub record Scene : Type 0 where
  pub events : List Event
  pub held : Held
  pub found : List Commit
  pub batch : Option Commit
  pub progress : Progress
  pub handed : List (ℕ × List ℕ)
  pub writable : List (ℕ × List ℕ)

-- what was mounted: the volume, and the image as it reads then
pub record Mounted : Type 0 where
  pub volume : Volume
  pub image : Image

-- the state of the volume (own)
abbrev pub state_in : Volume → Scene → State
state_in volume scene = state_of volume scene.events

-- the volumes of superblocks whose write failed and that none replaced (own)
abbrev pub tried_in : Volume → Scene → List Volume
tried_in volume scene = tried_from (mounted_state volume) [] scene.events

-- ---- what each happening does

abbrev pub blocks_of : Handed → List (ℕ × List ℕ)
blocks_of Nothing = []
blocks_of (Part blocks) = blocks
blocks_of (Batch blocks commit) = blocks

-- the commit that runs behind an event: the one that it handed out, or else the one before while the volume has one running (own)
abbrev pub batch_after : Option Commit → List Volume → Handed → Option Commit
batch_after batch next Nothing = elim next [ [] ↦ None | volume ∷ volumes ↦ batch ]
batch_after batch next (Part blocks) = elim next [ [] ↦ None | volume ∷ volumes ↦ batch ]
batch_after batch next (Batch blocks commit) = Some commit

abbrev pub progress_after : Progress → Handed → Progress
progress_after progress Nothing = progress
progress_after progress (Part blocks) = progress
progress_after progress (Batch blocks commit) = NotTried

-- behind an event (own)
abbrev pub scene_after_event : Volume → Scene → Event → Handed → Scene
scene_after_event volume scene event handed = record {
  events = scene.events ++ event ∷ [];
  held = scene.held;
  found = scene.found;
  batch = batch_after scene.batch (next_volumes (state_of volume (scene.events ++ event ∷ []))) handed;
  progress = progress_after scene.progress handed;
  handed = blocks_of handed ++ scene.handed;
  writable = blocks_of handed ++ scene.writable;
}

-- behind a write of the superblock of the commit that runs. Behind that of a full commit no block that was handed out before is written any more (own).
abbrev pub scene_after_super : State → Scene → Option Commit → Bool → List ℕ → Scene
scene_after_super state scene None ok left = scene
scene_after_super state scene (Some commit) ok left = record scene {
  held = after_call scene.held (Call.Super commit.superblock ok left);
  found = cond ok (commit ∷ []) (commit ∷ scene.found);
  progress = cond ok IsWritten HasFailed;
  writable = elim state.full [ None ↦ scene.writable | Some full ↦ [] ];
}

-- behind a write of the superblock whose write failed last (own)
abbrev pub scene_after_again : Scene → List Commit → Bool → List ℕ → Scene
scene_after_again scene [] ok left = scene
scene_after_again scene (commit ∷ found) ok left = record scene {
  held = after_call scene.held (Call.Super commit.superblock ok left);
  found = cond ok (commit ∷ []) (commit ∷ found);
}

-- behind what happens (own)
abbrev pub scene_after : Volume → Scene → Happening → Scene
scene_after volume scene (Comes event handed) = scene_after_event volume scene event handed
scene_after volume scene (Writes at bytes ok left) = record scene { held = after_call scene.held (Call.Write at bytes ok left) }
scene_after volume scene (Flushes ok) = record scene { held = after_call scene.held (Call.Flush ok) }
scene_after volume scene (WritesSuper ok left) = scene_after_super (state_in volume scene) scene scene.batch ok left
scene_after volume scene (WritesAgain ok left) = scene_after_again scene scene.found ok left

-- behind all of these, in order (own)
abbrev pub scene_behind : Volume → Scene → List Happening → Scene
scene_behind volume scene [] = scene
scene_behind volume scene (happening ∷ happenings) = scene_behind volume (scene_after volume scene happening) happenings

-- what the disk holds while a superblock of this one's bytes is written
abbrev pub during_super : Held → Option Commit → Bool → List ℕ → Held
during_super held None ok left = held
during_super held (Some commit) ok left = during_call held (Call.Super commit.superblock ok left)

abbrev pub first_of : List Commit → Option Commit
first_of [] = None
first_of (commit ∷ commits) = Some commit

-- what the disk holds while it happens (own)
abbrev pub held_during : Scene → Happening → Held
held_during scene (Comes event handed) = scene.held
held_during scene (Writes at bytes ok left) = during_call scene.held (Call.Write at bytes ok left)
held_during scene (Flushes ok) = during_call scene.held (Call.Flush ok)
held_during scene (WritesSuper ok left) = during_super scene.held scene.batch ok left
held_during scene (WritesAgain ok left) = during_super scene.held (first_of scene.found) ok left

-- right behind the mount, by a superblock that was found (own)
abbrev pub first_scene : Held → Commit → Scene
first_scene held first = record { events = []; held = held; found = first ∷ []; batch = None; progress = NotTried; handed = []; writable = [] }
