-- What each image that a crash may leave stands for.
use Rattle.std.specs.Prelude.{◌≡◌, ◌≢◌, ◌<◌, ℕ, List, [], ◌∷◌, ◌++◌, length, Option, Some, None, Contains, slice_get}
use Rattle.disk_model.specs.Disk.{Held, Image, IsBlock, IsUnsettled, Leaves}
use Rattle.flat_model.specs.Volume.{Volume}
use Rattle.commit_history.specs.declared.event.Event.{Event}
use Rattle.commit_history.specs.declared.event.Event.TheVariants as event
use Rattle.commit_history.specs.State.{State, RootCommit, FullCommit}
use Rattle.commit_history.specs.Survival.{possible_volumes, Survives}
use Rattle.commit_images.specs.Scene.{Commit, HasCommit, StandsFor, Happening, Progress, NotTried, HasFailed, IsWritten, Scene, Mounted, state_in, scene_after, held_during}

-- the event that a commit which runs is done
abbrev pub full_done : Option FullCommit → List Event
full_done None = []
full_done (Some full) = event.FullDone full.holder ∷ []

abbrev pub commit_done : Option RootCommit → Option FullCommit → List Event
commit_done None full = full_done full
commit_done (Some root) full = event.RootDone root.holder ∷ []

abbrev pub done_by : Progress → State → List Event
done_by NotTried state = []
done_by HasFailed state = []
done_by IsWritten state = commit_done state.root state.full

-- The history at this moment: the events so far, and that a commit is done from the moment on at which its superblock is written (own).
abbrev pub history_in : Volume → Scene → List Event
history_in volume scene = scene.events ++ done_by scene.progress (state_in volume scene)

-- The image stands for a volume that a crash may leave by the history, and that volume survives it: the durable one, that of a superblock whose write is under
-- way, or of one whose write failed and that none replaced.
pub record StandsBy (Stands : Image → Volume → Type 0) (history : List Event) (mounted : Volume) (image : Image) : Type 0 where
  pub volume : Volume
  pub stands : Stands image volume
  pub possible : Contains (possible_volumes mounted history) volume
  pub survives : Survives mounted history volume

-- so does each image that a crash may leave before, while and after these happen
abbrev pub EachImageStands : (Image → Volume → Type 0) → Volume → Scene → List Happening → Type 0
EachImageStands Stands volume scene [] = (image : Image) → Leaves scene.held image → StandsBy Stands (history_in volume scene) volume image
EachImageStands Stands volume scene (happening ∷ happenings) =
    ((image : Image) → Leaves scene.held image → StandsBy Stands (history_in volume scene) volume image)
    × ((image : Image) → Leaves (held_during scene happening) image → StandsBy Stands (history_in volume scene) volume image)
    × EachImageStands Stands volume (scene_after volume scene happening) happenings

-- The volume was mounted by this superblock: a crash may find no other, all that it reaches is durable and reads as it did at the mount, and it stands for the
-- volume (own).
pub record IsMountedBy (Stands : Image → Volume → Type 0) (mounted : Mounted) (held : Held) (first : Commit) : Type 0 where
  pub volume : first.volume ≡ mounted.volume
  pub image : held.image ≡ mounted.image
  pub size : 16 < length mounted.image
  pub supers : (bytes : List ℕ) → Contains held.supers bytes → IsBlock bytes → bytes ≡ first.superblock
  pub durable : (block : ℕ × List ℕ) → Contains first.blocks block → (block.0 ≢ 16) × (IsUnsettled held block.0 → ⊥) × (slice_get held.image block.0 ≡ Some block.1)
  pub stands : StandsFor Stands (length mounted.image) first

-- The same by what a crash may leave at the mount: the image as it reads is one of the images, and each has the superblock, and all that it reaches (own).
pub record IsFoundBy (Stands : Image → Volume → Type 0) (mounted : Mounted) (held : Held) (first : Commit) : Type 0 where
  pub volume : first.volume ≡ mounted.volume
  pub image : held.image ≡ mounted.image
  pub size : 16 < length mounted.image
  pub apart : (block : ℕ × List ℕ) → Contains first.blocks block → block.0 ≢ 16
  pub as_it_reads : Leaves held held.image
  pub found : (left : Image) → Leaves held left → HasCommit left first
  pub stands : StandsFor Stands (length mounted.image) first
