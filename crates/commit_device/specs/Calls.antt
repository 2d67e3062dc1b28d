-- Which calls of the disk the happenings are, and what the disk's record tells of them.
use Rattle.std.specs.Prelude.{◌≡◌, ◌⊎◌, ℕ, Bool, false, List, [], ◌∷◌, ◌++◌, Option, Some, None, Contains}
use Rattle.disk_model.specs.Disk.{Call, Held}
use Rattle.flat_model.specs.Volume.{Volume}
use Rattle.commit_images.specs.Scene.{Commit, Happening, Comes, Writes, Flushes, WritesSuper, WritesAgain, Scene, first_of, scene_after}

-- the write of this commit's superblock, where there is one
abbrev pub super_calls : Option Commit → Bool → List ℕ → List Call
super_calls None ok left = []
super_calls (Some commit) ok left = Call.Super commit.superblock ok left ∷ []

-- the call of the disk that a happening is: a superblock is that of the commit that runs, or the last one that was found, and an event is none (own)
abbrev pub device_call_of : Scene → Happening → List Call
device_call_of scene (Comes event handed) = []
device_call_of scene (Writes at bytes ok left) = Call.Write at bytes ok left ∷ []
device_call_of scene (Flushes ok) = Call.Flush ok ∷ []
device_call_of scene (WritesSuper ok left) = super_calls scene.batch ok left
device_call_of scene (WritesAgain ok left) = super_calls (first_of scene.found) ok left

-- the calls of the disk that happenings are, one behind the other (own)
abbrev pub calls_of : Volume → Scene → List Happening → List Call
calls_of volume scene [] = []
calls_of volume scene (happening ∷ happenings) = device_call_of scene happening ++ calls_of volume (scene_after volume scene happening) happenings

-- a write of a superblock that failed
abbrev pub IsFailedSuper : Call → Type 0
IsFailedSuper (Call.Write at bytes ok left) = ⊥
IsFailedSuper (Call.Super bytes ok left) = ok ≡ false
IsFailedSuper (Call.Flush ok) = ⊥

-- Of the calls that were made these are told: all of them, but perhaps for writes of superblocks that failed (own).
abbrev pub AreTold : List Call → List Call → Type 0
AreTold [] told = told ≡ []
AreTold (call ∷ made) told = ((rest : List Call) × (told ≡ call ∷ rest) × AreTold made rest) ⊎ (IsFailedSuper call × AreTold made told)

-- What the disk holds by its record, and by what happened: the same, but for superblocks more that a crash may find, since a write of a superblock that failed
-- may have left no trace in the record (own).
pub record HoldsAtLeast (told held : Held) : Type 0 where
  pub image : held.image ≡ told.image
  pub pending : held.pending ≡ told.pending
  pub lost : held.lost ≡ told.lost
  pub supers : (bytes : List ℕ) → Contains told.supers bytes → Contains held.supers bytes
