-- The volume that is made, and what a crash may leave meanwhile.
use Rattle.std.specs.Prelude.{◌≡◌, ◌≤◌, ◌⊎◌, ◌↔◌, ◌++◌, ◌∷◌, [], ℕ, List, All, Contains, length, map, Option, Some, slice_get}
use Rattle.blk_base.specs.Address.{IsAllowed}
use Rattle.blk_base.specs.Superblock.{SuperValue, super_bytes}
use Rattle.blk_base.specs.Trees.{AtBlock, NoneTwice}
use Rattle.block_table.specs.declared.batch.Batch.{Batch}
use Rattle.disk_model.specs.Disk.{Image, IsImage, Told, Leaves, IfTold, AtEveryMoment, TellsMore, held_now, image_now}
use Rattle.batch_write.specs.Batch.{HasBlock, LeavesOnly, Regained, numbers_of, settle_calls, super_call}
use Rattle.flat_model.specs.Volume.{bare_volume}
use Rattle.volume_image.specs.Stands.{Stands, StandsBy, super_block}

-- a volume may have so many blocks, and so many subvolumes, on a disk of so many blocks (own)
pub record MayBeMade (disk_blocks blocks subs : ℕ) : Type 0 where
  pub least : 4096 ≤ blocks
  pub most : blocks ≤ 65536
  pub on_disk : blocks ≤ disk_blocks
  pub some : 1 ≤ subs
  pub few : subs ≤ 16

-- what the superblock of a new volume says, where its trees have so many blocks: the first generation, and no log ("Superblock")
pub record SaysNew (fsid : List ℕ) (blocks used : ℕ) (super : SuperValue) : Type 0 where
  pub fsid_is : super.fsid ≡ fsid
  pub generation_is : super.generation ≡ 1
  pub no_log : super.log_root ≡ 0
  pub no_log_level : super.log_root_level ≡ 0
  pub blocks_are : super.blocks ≡ blocks
  pub used_is : super.used ≡ used

-- the image has such a superblock
pub record HasNewSuper (fsid : List ℕ) (blocks : ℕ) (image : Image) : Type 0 where
  pub super : SuperValue
  pub used : ℕ
  pub says : SaysNew fsid blocks used super
  pub spelled : super_block image ≡ super_bytes super

-- the byte addresses of blocks
abbrev pub addresses_of : List AtBlock → List ℕ
addresses_of pairs = map (λ (pair : AtBlock). pair.0.0) pairs

-- the image has this superblock and these blocks
pub record HasNew (superblock : List ℕ) (pairs : List AtBlock) (image : Image) : Type 0 where
  pub super : slice_get image 16 ≡ Some superblock
  pub blocks : All (HasBlock image) pairs

-- The superblock and the blocks of an empty volume of so many blocks and subvolumes: an image that has them stands for that volume by
-- these blocks, each of which has a place of its own.
pub record IsNewVolume (fsid : List ℕ) (blocks subs : ℕ) (superblock : List ℕ) (pairs : List AtBlock) : Type 0 where
  pub super : SuperValue
  pub says : SaysNew fsid blocks (length pairs) super
  pub spelled : superblock ≡ super_bytes super
  pub reach : List ℕ
  pub same : (at : ℕ) → Contains reach at ↔ Contains (addresses_of pairs) at
  pub allowed : All (IsAllowed blocks) (addresses_of pairs)
  pub once : NoneTwice (addresses_of pairs)
  pub stands : (image : Image) → IsImage image → blocks ≤ length image → HasNew superblock pairs image → StandsBy image (bare_volume subs) reach

-- The volume was made: its blocks and its superblock were written, by these calls alone; a read gives them, a crash leaves them, and none
-- of them is lost (own).
pub record IsMade (fsid : List ℕ) (blocks subs : ℕ) (seen : Option Image) (lost lost_now : List ℕ) (told told_now : Option Told) : Type 0 where
  pub superblock : List ℕ
  pub pairs : List AtBlock
  pub new : IsNewVolume fsid blocks subs superblock pairs
  pub calls : TellsMore told told_now (settle_calls pairs ++ super_call superblock ∷ [])
  pub read : IfTold seen (HasNew superblock pairs)
  pub left : IfTold told_now (λ now. LeavesOnly now (HasNew superblock pairs))
  pub regained : Regained (numbers_of pairs) lost lost_now

-- each image that a crash may leave now has the superblock of the image as it reads (own)
abbrev pub FindsWhatIsRead : Told → Type 0
FindsWhatIsRead told = (image : Image) → Leaves (held_now told) image → super_block image ≡ super_block (image_now told)

-- P holds of each image that a crash may leave at every moment of a call that began with this superblock, where these moments are told (own)
abbrev pub CrashLeaves : Option Told → Option Told → (List ℕ → Image → Type 0) → Type 0
CrashLeaves before after P = IfTold before (λ old. FindsWhatIsRead old → AtEveryMoment before after (P (super_block (image_now old))))

-- the image has the superblock from before, or stands for the empty volume of so many subvolumes (own)
abbrev pub IsOldOrBare : ℕ → List ℕ → Image → Type 0
IsOldOrBare subs superblock image = (super_block image ≡ superblock) ⊎ Stands image (bare_volume subs)

-- a batch that commits to an empty volume: the first seal, a full one, without parts (own)
pub record IsNewBatch (fsid : List ℕ) (blocks subs : ℕ) (batch : Batch) : Type 0 where
  pub done : batch.marks.done ≡ 0
  pub tried : batch.marks.tried ≡ 0
  pub parts : batch.parts ≡ []
  pub new : IsNewVolume fsid blocks subs batch.superblock.value batch.blocks.pairs
