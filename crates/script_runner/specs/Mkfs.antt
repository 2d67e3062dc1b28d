-- The volume that the words of `mkfs` ask for.
use Rattle.std.specs.Prelude.{◌≡◌, ◌⊎◌, ◌∷◌, [], ℕ, List}
use Rattle.disk_model.specs.Disk.{Image}
use Rattle.flat_model.specs.Volume.{bare_volume}
use Rattle.volume_image.specs.Stands.{Stands, super_block}
use Rattle.volume_mkfs.specs.Made.{HasNewSuper}
use Rattle.script_runner.specs.Commands.{Says}
use Rattle.script_runner.specs.Words.{IsNumber}

-- the image stands for an empty volume of as many subvolumes as the third word of `mkfs` says
abbrev pub StandsForSubs : List ℕ → Image → Type 0
StandsForSubs subs image = (count : ℕ) × IsNumber subs count × Stands image (bare_volume count)

-- The image has the volume that the three words of `mkfs` ask for: it stands for an empty one of so many subvolumes, and its
-- superblock has the uuid and so many blocks.
pub record HasVolumeOf (fsid blocks subs : List ℕ) (image : Image) : Type 0 where
  pub bytes : List ℕ
  pub block_count : ℕ
  pub subvolume_count : ℕ
  pub says : Says fsid blocks subs bytes block_count subvolume_count
  pub stands : Stands image (bare_volume subvolume_count)
  pub superblock : HasNewSuper bytes block_count image

-- the image has the volume that the words of a command ask for
abbrev pub HasVolumeAsked : List (List ℕ) → Image → Type 0
HasVolumeAsked (command ∷ fsid ∷ blocks ∷ subs ∷ []) image = HasVolumeOf fsid blocks subs image
HasVolumeAsked words image = ⊥

-- the image has the superblock from before, or stands for an empty volume as the third word of `mkfs` asks for it (own)
abbrev pub IsOldOrMade : List ℕ → List ℕ → Image → Type 0
IsOldOrMade subs superblock image = (super_block image ≡ superblock) ⊎ StandsForSubs subs image

-- so is it where the words of a command ask for one; any other command leaves the superblock from before (own)
abbrev pub IsOldOrAsked : List (List ℕ) → List ℕ → Image → Type 0
IsOldOrAsked (command ∷ fsid ∷ blocks ∷ subs ∷ []) superblock image = IsOldOrMade subs superblock image
IsOldOrAsked words superblock image = super_block image ≡ superblock
