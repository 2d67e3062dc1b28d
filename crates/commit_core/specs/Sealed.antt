-- What a seal of the whole volume hands out, and when it is ready to be written.
use Rattle.std.specs.Prelude.{◌≡◌, ◌≢◌, ◌⊎◌, ◌/◌, ℕ, List, [], ◌∷◌, All, Contains, Some, length}
use Rattle.batch_write.specs.Batch.{IsPlace, numbers_of}
use Rattle.blk_base.specs.Superblock.{IsSuper, SuperValue}
use Rattle.blk_base.specs.Trees.{AtBlock, NoneTwice}
use Rattle.block_table.specs.declared.batch.Batch.{Batch}
use Rattle.commit_history.specs.declared.event.Event.{Event}
use Rattle.commit_history.specs.declared.event.Event.TheVariants as event
use Rattle.disk_model.specs.Disk.{Image, IsImage}
use Rattle.commit_images.specs.Scene.{Commit, Comes, Handed, Happening, HasCommit, Mounted, NotTried, Reaches, Scene, scene_after}
use Rattle.commit_images.specs.Scene as scenes
use Rattle.volume_image.specs.Stands.{StandsBy}
use Rattle.commit_core.specs.Coming.{HasCome, numbered}

-- the superblock that was written or tried last reaches the block with these bytes
abbrev pub IsOfNewest : List Commit → ℕ × List ℕ → Type 0
IsOfNewest [] block = ⊥
IsOfNewest (commit ∷ commits) block = Contains commit.blocks block

-- A commit may be written: it runs, and its superblock wasn't tried; its blocks were handed out, and no superblock that a crash may find reaches one of them; and
-- all else that it reaches the superblock that was written or tried last reaches already (own).
pub record IsReadyToWrite (scene : Scene) (blocks : List (ℕ × List ℕ)) (commit : Commit) : Type 0 where
  pub runs : scene.batch ≡ Some commit
  pub first_time : scene.progress ≡ NotTried
  pub not_super : (block : ℕ × List ℕ) → Contains blocks block → block.0 ≢ 16
  pub writable : (block : ℕ × List ℕ) → Contains blocks block → Contains scene.writable block
  pub unreached : (block : ℕ × List ℕ) → Contains blocks block → (found : Commit) → Contains scene.found found → Reaches found block.0 → ⊥
  pub reached : (block : ℕ × List ℕ) → Contains commit.blocks block → Contains blocks block ⊎ IsOfNewest scene.found block

-- blocks have places in a volume of so many, none twice
pub record HavePlaces (count : ℕ) (pairs : List AtBlock) : Type 0 where
  pub places : All (λ (pair : AtBlock). IsPlace count pair.0) pairs
  pub once : NoneTwice (numbers_of pairs)

-- what the superblock of a full commit says: this uuid and generation, so many blocks, and no log ("Superblock")
pub record SaysCommit (superblock : List ℕ) (count : ℕ) (fsid : List ℕ) (generation : ℕ) : Type 0 where
  pub super : SuperValue
  pub spelled : IsSuper superblock count super
  pub fsid_is : super.fsid ≡ fsid
  pub generation_is : super.generation ≡ generation
  pub blocks_are : super.blocks ≡ count
  pub no_log : super.log_root ≡ 0

-- the image stands for the volume of a commit, by blocks that its superblock reaches (own)
pub record StandsWithin (image : Image) (commit : Commit) : Type 0 where
  pub reach : List ℕ
  pub by_reach : StandsBy image commit.volume reach
  pub within : (at : ℕ) → Contains reach at → Reaches commit (at / 4096)

-- so does each image of so many blocks that has the commit
abbrev pub StandsWhole : ℕ → Commit → Type 0
StandsWhole size commit = (image : Image) → IsImage image → length image ≡ size → HasCommit image commit → StandsWithin image commit

-- so it is for each commit that is handed out
abbrev pub CommitsStandWhole : ℕ → List Happening → Type 0
CommitsStandWhole size happenings =
    (came : Event) (blocks : List (ℕ × List ℕ)) (commit : Commit) → Contains happenings (Comes came (scenes.Batch blocks commit)) → StandsWhole size commit

-- The whole volume was sealed, and this batch handed out: exactly the blocks of its commit that no superblock which a crash may find reaches, each once, with
-- their superblock; each image that has the commit stands for the current volume; and it may be written (own).
pub record IsSealedFull (Has : Mounted → Scene → Type 0) (mounted : Mounted) (scene : Scene) (caller : ℕ) (batch : Batch) : Type 0 where
  pub commit : Commit
  pub superblock : commit.superblock ≡ batch.superblock.value
  pub came : HasCome Has mounted scene (event.SealFull caller) (scenes.Batch (numbered batch.blocks.pairs) commit)
  pub of_commit : (block : ℕ × List ℕ) → Contains (numbered batch.blocks.pairs) block → Contains commit.blocks block
  pub ready : IsReadyToWrite (scene_after mounted.volume scene (Comes (event.SealFull caller) (scenes.Batch (numbered batch.blocks.pairs) commit))) (numbered batch.blocks.pairs) commit
  pub stands : StandsWhole (length mounted.image) commit
