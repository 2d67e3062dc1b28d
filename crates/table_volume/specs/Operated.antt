-- What an operation on the tree of a subvolume comes to.
use Rattle.std.specs.Prelude.{◌≡◌, ◌≤◌, ℕ, true}
use Rattle.block_table.specs.declared.tree.SubState.{SubState}
use Rattle.block_table.specs.Table.{Table, free_blocks}
use Rattle.flat_model.specs.declared.answer.Answer.{Answer}
use Rattle.flat_model.specs.Operations.{Outcome}
use Rattle.flat_model.specs.Refusal.{is_refusal}
use Rattle.flat_model.specs.Step.{AreNextIndexes}
use Rattle.flat_model.specs.Volume.{RunSub}
use Rattle.table_volume.specs.Edited.{IsSubEdit}
use Rattle.table_volume.specs.Running.{GivesRun}

-- so many blocks are Free, and so many buffers are spare (own)
pub record HasRoom (table : Table) (count : ℕ) : Type 0 where
  pub spare : count ≤ table.spare
  pub free : count ≤ free_blocks table

-- The answer is the one of this outcome, and the state then gives the outcome's subvolume in its run; it is an edit of this
-- subvolume alone, which takes at most so many blocks and buffers more than it gives back; the indexes of the names that it
-- made may be chosen so; and a refusal leaves the table and the state as they were (own).
pub record IsOperated (old new : Table) (before after : SubState) (run : RunSub) (outcome : Outcome) (answer : Answer) (most : ℕ) : Type 0 where
  pub said : answer ≡ outcome.answer
  pub gives : GivesRun new after outcome.next
  pub edit : IsSubEdit old new before after most
  pub choice : AreNextIndexes run.numbers outcome.made
  pub refused : is_refusal answer ≡ true → (new ≡ old) × (after ≡ before)
