-- What is known of a disk before and after blocks were written.
use Rattle.std.specs.Prelude.{◌≡◌, ℕ, List, map, All, Option}
use Rattle.blk_base.specs.Trees.{AtBlock, NoneTwice}
use Rattle.disk_model.specs.Disk.{EveryMoment, IfBoth, IfTold, Image, Told, TellsMore}
use Rattle.batch_write.specs.Batch.{HasBlock, IsOldBut, IsPlace, Regained, SameOutside, numbers_of, write_call}

-- what a disk tells: its number of blocks, what a read gives, its lost blocks and its record (own)
pub record Known : Type 0 where
  pub count : ℕ
  pub seen : Option Image
  pub lost : List ℕ
  pub told : Option Told

-- the blocks have places on a disk of so many blocks, none twice (own)
pub record MayBeWritten (count : ℕ) (batch : List AtBlock) : Type 0 where
  pub places : All (λ item. IsPlace count item.0) batch
  pub once : NoneTwice (numbers_of batch)

-- Writes of these blocks were made, all of them or the first ones up to one that failed: nothing else changes, also at every
-- moment (own).
pub record ChangesOnly (old new : Known) (batch : List AtBlock) : Type 0 where
  pub size : new.count ≡ old.count
  pub same : IfBoth old.seen new.seen (SameOutside (numbers_of batch))
  pub crash : IfBoth old.told new.told (λ before after. EveryMoment before after (IsOldBut before (numbers_of batch)))

-- all of these blocks were written, by these calls alone (own)
pub record AreWritten (old new : Known) (batch : List AtBlock) : Type 0 where
  pub written : IfTold new.seen (λ image. All (HasBlock image) batch)
  pub lost : Regained (numbers_of batch) old.lost new.lost
  pub calls : TellsMore old.told new.told (map write_call batch)
