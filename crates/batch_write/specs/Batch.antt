-- A batch of blocks and a superblock, and what a crash may leave while they are written.
use Rattle.std.specs.Prelude.{◌≡◌, ◌≢◌, ◌/◌, ◌%◌, ◌<◌, ◌⊎◌, ◌++◌, ◌∷◌, [], ℕ, List, length, map, All, Contains, Some, true, slice_get}
use Rattle.std.specs.declared.boxed.Box.{Box}
use Rattle.blk_base.specs.declared.key.Addr.{Addr}
pub use Rattle.blk_base.specs.Trees.{AtBlock}
use Rattle.disk_model.specs.Disk.{Image, IsImage, Call, Told, Leaves, held_now}

-- the blocks of a batch by their bytes
abbrev pub blocks_of : {A : Type 0} → List (Addr × Box (List ℕ) A) → List AtBlock
blocks_of items = map (λ item. (item.0, item.1.value)) items

-- the numbers of these blocks
abbrev pub numbers_of : List AtBlock → List ℕ
numbers_of batch = map (λ item. item.0.0 / 4096) batch

-- a byte address of a block of a disk of so many that isn't the superblock
pub record IsPlace (count : ℕ) (at : Addr) : Type 0 where
  pub inside : at.0 / 4096 < count
  pub not_super : at.0 / 4096 ≢ 16
  pub whole : at.0 % 4096 ≡ 0

-- the image has this block at its address
abbrev pub HasBlock : Image → AtBlock → Type 0
HasBlock image item = slice_get image (item.0.0 / 4096) ≡ Some item.1

-- the two images differ at most in the blocks with these numbers
pub record SameOutside (numbers : List ℕ) (old new : Image) : Type 0 where
  pub size : length new ≡ length old
  pub others : (at : ℕ) → (Contains numbers at → ⊥) → slice_get new at ≡ slice_get old at

-- The new image has the batch, any superblock, and else what the old one has.
pub record HasWritten (batch : List AtBlock) (old new : Image) : Type 0 where
  pub size : length new ≡ length old
  pub written : All (HasBlock new) batch
  pub others : (at : ℕ) → at ≢ 16 → (Contains (numbers_of batch) at → ⊥) → slice_get new at ≡ slice_get old at

-- Fewer blocks are lost than before, and none with one of these numbers.
pub record Regained (numbers : List ℕ) (old new : List ℕ) : Type 0 where
  pub fewer : (at : ℕ) → Contains new at → Contains old at
  pub none : (at : ℕ) → Contains numbers at → Contains new at → ⊥

-- the write of a block, which answered Ok
abbrev pub write_call : AtBlock → Call
write_call item = Call.Write (item.0.0 / 4096) item.1 true item.1

-- the calls that make the blocks durable: a write of each, in order, and a flush
abbrev pub settle_calls : List AtBlock → List Call
settle_calls batch = map write_call batch ++ Call.Flush true ∷ []

-- the superblock's write, which answered Ok
abbrev pub super_call : List ℕ → Call
super_call superblock = Call.Super superblock true superblock

-- The image is one that a crash could leave at first, but for the blocks with these numbers.
pub record IsOldBut (old : Told) (numbers : List ℕ) (image : Image) : Type 0 where
  pub base : Image
  pub left : Leaves (held_now old) base
  pub blocks : IsImage image
  pub size : length image ≡ length base
  pub others : (at : ℕ) → (Contains numbers at → ⊥) → slice_get image at ≡ slice_get base at

-- The image has the batch and the superblock, and is else one that a crash could leave at first.
pub record HasBatch (old : Told) (batch : List AtBlock) (superblock : List ℕ) (image : Image) : Type 0 where
  pub base : Image
  pub left : Leaves (held_now old) base
  pub blocks : IsImage image
  pub size : length image ≡ length base
  pub super : slice_get image 16 ≡ Some superblock
  pub written : All (HasBlock image) batch
  pub others : (at : ℕ) → at ≢ 16 → (Contains (numbers_of batch) at → ⊥) → slice_get image at ≡ slice_get base at

-- one of the two
abbrev pub IsOldOrNew : Told → List AtBlock → List ℕ → Image → Type 0
IsOldOrNew old batch superblock image = IsOldBut old (numbers_of batch) image ⊎ HasBatch old batch superblock image

-- one of the two, and the whole batch is on the image, whichever superblock it has
abbrev pub IsTried : Told → List AtBlock → List ℕ → Image → Type 0
IsTried old batch superblock image = IsOldOrNew old batch superblock image × All (HasBlock image) batch

-- no block of the batch is the superblock
abbrev pub NoSuper : List AtBlock → Type 0
NoSuper batch = All (λ item. item.0.0 / 4096 ≢ 16) batch

-- each image that a crash may leave now has P
abbrev pub LeavesOnly : Told → (Image → Type 0) → Type 0
LeavesOnly told P = (image : Image) → Leaves (held_now told) image → P image
