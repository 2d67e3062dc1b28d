-- Which events and calls of the device may come, one behind the other.
use Rattle.std.specs.Prelude.{◌≡◌, ◌≢◌, ◌==◌, ℕ, Bool, true, false, cond, List, [], ◌∷◌, ◌++◌, Option, Some, None, Contains, slice_get, ⊤}
use Rattle.disk_model.specs.Disk.{Image, IsUnsettled}
use Rattle.flat_model.specs.Volume.{Volume, volume_of}
use Rattle.commit_history.specs.declared.event.Event.{Event}
use Rattle.commit_history.specs.declared.event.Event.TheVariants as event
use Rattle.commit_history.specs.State.{State}
use Rattle.commit_history.specs.Effects.{numbers_ready, state_of}
use Rattle.commit_history.specs.Legal.{MayCome}
use Rattle.commit_history.specs.Survival.{next_volumes, volume_by_root}
use Rattle.commit_images.specs.Scene.{Commit, Reaches, StandsFor, Handed, Nothing, Part, Batch, Happening, Comes, Writes, Flushes, WritesSuper, WritesAgain, Progress, NotTried, HasFailed, IsWritten, Scene, Mounted, state_in, scene_after}

-- ---- what an event hands out

-- the bytes with which a block was handed out last, or else those that it had when the volume was mounted (own)
abbrev pub last_bytes : List (ℕ × List ℕ) → Image → ℕ → Option (List ℕ)
last_bytes [] image at = slice_get image at
last_bytes (block ∷ handed) image at = cond (block.0 == at) (Some block.1) (last_bytes handed image at)

-- a commit that makes this volume durable is handed out: each block that its superblock reaches has the bytes with which it was handed out last, or else those
-- that it had when the volume was mounted (own)
pub record HandsOut (image : Image) (scene : Scene) (handed : Handed) (volume : Volume) : Type 0 where
  pub blocks : List (ℕ × List ℕ)
  pub commit : Commit
  pub is : handed ≡ Batch blocks commit
  pub makes : commit.volume ≡ volume
  pub content : (block : ℕ × List ℕ) → Contains commit.blocks block → last_bytes (blocks ++ scene.handed) image block.0 ≡ Some block.1

-- what is handed out is right for the event: a part where the log of a subvolume is sealed, a commit where the log roots or the volume are, and else nothing
abbrev pub IsHanded : Image → Scene → State → Event → Handed → Type 0
IsHanded image scene state (event.SealSub caller sub number) handed = (blocks : List (ℕ × List ℕ)) × (handed ≡ Part blocks)
IsHanded image scene state (event.SealRoot caller) handed =
    HandsOut image scene handed (volume_by_root state (record { holder = caller; numbers = numbers_ready state.logs }))
IsHanded image scene state (event.SealFull caller) handed = HandsOut image scene handed (volume_of state.current)
IsHanded image scene state other handed = handed ≡ Nothing

-- ---- outcomes

abbrev pub has_failed : Progress → Bool
has_failed NotTried = false
has_failed HasFailed = true
has_failed IsWritten = false

-- a failure that ends the commit which runs comes only where its superblock isn't written, and says whether that was tried
pub record IsFailureOf (scene : Scene) (next : List Volume) (tried : Bool) : Type 0 where
  pub not_written : scene.batch ≢ None → next ≡ [] → scene.progress ≢ IsWritten
  pub tells : scene.batch ≢ None → next ≡ [] → tried ≡ has_failed scene.progress

-- an event tells the outcome of the device's calls: a commit is done where its superblock is written
abbrev pub TellsOutcome : Scene → List Volume → Event → Type 0
TellsOutcome scene next (event.RootDone caller) = scene.progress ≡ IsWritten
TellsOutcome scene next (event.FullDone caller) = scene.progress ≡ IsWritten
TellsOutcome scene next (event.Failed caller turn tried) = IsFailureOf scene next tried
TellsOutcome scene next other = ⊤

-- ---- calls of the device

-- The block is durable: it isn't the superblock, it is neither pending nor lost, so that its last write and the first flush behind that answered Ok, and it reads
-- so; or a superblock that a crash may find reaches it so already (own).
pub data IsDurable (scene : Scene) (block : ℕ × List ℕ) : Type 0 where
  IsSettled : block.0 ≢ 16 → (IsUnsettled scene.held block.0 → ⊥) → slice_get scene.held.image block.0 ≡ Some block.1 → IsDurable scene block
  IsReached : (commit : Commit) → Contains scene.found commit → Contains commit.blocks block → IsDurable scene block

-- a block may be written: it was handed out with these bytes, and no superblock that a crash may find reaches it (own)
pub record MayWrite (scene : Scene) (at : ℕ) (bytes : List ℕ) (ok : Bool) (left : List ℕ) : Type 0 where
  pub not_super : at ≢ 16
  pub handed : Contains scene.writable (at, bytes)
  pub unreached : (commit : Commit) → Contains scene.found commit → Reaches commit at → ⊥
  pub reads : ok ≡ true → left ≡ bytes

-- the superblock of the commit that runs may be written: it wasn't tried, all that it reaches is durable, and a crash may find one superblock alone, so that one
-- whose write failed was written again (own)
pub record MayWriteSuper (scene : Scene) (ok : Bool) (left : List ℕ) : Type 0 where
  pub commit : Commit
  pub first : Commit
  pub runs : scene.batch ≡ Some commit
  pub first_time : scene.progress ≡ NotTried
  pub alone : scene.found ≡ first ∷ []
  pub durable : (block : ℕ × List ℕ) → Contains commit.blocks block → IsDurable scene block
  pub reads : ok ≡ true → left ≡ commit.superblock

-- the superblock whose write failed last may be written again: another one may be found beside it (own)
pub record MayWriteAgain (scene : Scene) (ok : Bool) (left : List ℕ) : Type 0 where
  pub commit : Commit
  pub other : Commit
  pub others : List Commit
  pub found : scene.found ≡ commit ∷ other ∷ others
  pub reads : ok ≡ true → left ≡ commit.superblock

-- ---- all of it

-- it may happen (own)
abbrev pub MayHappen : Mounted → Scene → Happening → Type 0
MayHappen mounted scene (Comes event handed) =
    MayCome (state_in mounted.volume scene) event
    × IsHanded mounted.image scene (state_in mounted.volume scene) event handed
    × TellsOutcome scene (next_volumes (state_of mounted.volume (scene.events ++ event ∷ []))) event
MayHappen mounted scene (Writes at bytes ok left) = MayWrite scene at bytes ok left
MayHappen mounted scene (Flushes ok) = ⊤
MayHappen mounted scene (WritesSuper ok left) = MayWriteSuper scene ok left
MayHappen mounted scene (WritesAgain ok left) = MayWriteAgain scene ok left

-- these may happen, one behind the other: events and calls of the device are admissible (own)
abbrev pub AreAdmissible : Mounted → Scene → List Happening → Type 0
AreAdmissible mounted scene [] = ⊤
AreAdmissible mounted scene (happening ∷ happenings) = MayHappen mounted scene happening × AreAdmissible mounted (scene_after mounted.volume scene happening) happenings

-- each commit that is handed out stands for its volume
abbrev pub CommitsStand : (Image → Volume → Type 0) → ℕ → List Happening → Type 0
CommitsStand Stands size happenings =
    (event : Event) (blocks : List (ℕ × List ℕ)) (commit : Commit) → Contains happenings (Comes event (Batch blocks commit)) → StandsFor Stands size commit
