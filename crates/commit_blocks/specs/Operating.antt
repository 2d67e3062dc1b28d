-- What an operation leaves of the blocks that a volume keeps.
use Rattle.std.specs.Prelude.{◌≡◌, ◌≢◌, ◌≤◌, ◌+◌, ◌⊎◌, ℕ, List, Contains}
use Rattle.blk_base.specs.Bytes.{Image}
use Rattle.block_table.specs.declared.state.SlotState.TheVariants.{Dirty, Free, LetGo}
use Rattle.block_table.specs.Table.{Table, free_blocks}
use Rattle.block_table.specs.TreeIn.{block_at}
use Rattle.commit_images.specs.Scene.{Scene}
use Rattle.flat_model.specs.declared.answer.Answer.{Answer}
use Rattle.flat_model.specs.declared.op.Op.{Op}
use Rattle.flat_model.specs.Needs.{need}
use Rattle.flat_model.specs.Step.{IsChoice, indexes_of, step}
use Rattle.flat_model.specs.Volume.{RunVolume}
use Rattle.tree_frame.specs.Frame.{TakesAtMost}
use Rattle.volume_ops.specs.Done.{newest_indexes, room_of}
use Rattle.volume_seal.specs.Sealed.{states_reach}
use Rattle.commit_blocks.specs.declared.kept.Kept.{Kept}
use Rattle.commit_blocks.specs.Keeps.{KeepsBlocks}

-- As many blocks are Free as the operation needs, and as many buffers spare as it takes at most, and 80 for seals (own).
pub record HasRoomFor (table : Table) (run : RunVolume) (op : Op) : Type 0 where
  pub free : need run op ≤ free_blocks table
  pub spare : need run op ≢ 0 → room_of run op + 80 ≤ table.spare

-- The blocks that are LetGo behind an operation are those before it, and those of the volume that it has no more, but for Dirty ones, which are Free (own).
pub record LetsGoLeft (old new : Kept) : Type 0 where
  pub only : (at : ℕ) → (block_at new.table at).state ≡ LetGo
      → ((block_at old.table at).state ≡ LetGo)
      ⊎ (Contains (states_reach old.table old.states.items) at × (Contains (states_reach new.table new.states.items) at → ⊥))
  pub stays : (at : ℕ) → (block_at old.table at).state ≡ LetGo → (block_at new.table at).state ≡ LetGo
  pub dirty : (at : ℕ) → Contains (states_reach old.table old.states.items) at → (Contains (states_reach new.table new.states.items) at → ⊥)
      → (block_at old.table at).state ≡ Dirty → (block_at new.table at).state ≡ Free
  pub written : (at : ℕ) → Contains (states_reach old.table old.states.items) at → (Contains (states_reach new.table new.states.items) at → ⊥)
      → (block_at old.table at).state ≢ Dirty → (block_at new.table at).state ≡ LetGo

-- The answer is that of the definition, where the new names get these indexes, which the operation leaves open: they are the next
-- ones above all that the subvolume has had; the volume is kept
-- as the definition's next one, with the same superblocks; so many blocks and buffers are taken at most; and what the volume has no more is let go (own).
pub record IsKeptOperated (old new : Kept) (image : Image) (run : RunVolume) (scene : Scene) (op : Op) (answer : Answer) : Type 0 where
  pub indexes : List ℕ
  pub choice : IsChoice run op indexes
  pub newest : indexes ≡ indexes_of (step run op (newest_indexes run op)).made
  pub said : answer ≡ (step run op indexes).answer
  pub keeps : KeepsBlocks new image (step run op indexes).next scene
  pub taken : TakesAtMost old.table new.table (room_of run op)
  pub let_go : LetsGoLeft old new
