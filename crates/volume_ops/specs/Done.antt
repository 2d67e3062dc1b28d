-- What an operation on a volume's trees comes to.
use Rattle.std.specs.Prelude.{◌≡◌, ◌+◌, ◌*◌, ◌++◌, ℕ, List, [], ◌∷◌, All, Option, Some, None, true, cond, nat_eq}
use Rattle.std.specs.FinMap.{get}
use Rattle.block_table.specs.declared.tree.SubState.{SubState}
use Rattle.block_table.specs.Table.{Table}
use Rattle.flat_model.specs.declared.answer.Answer.{Answer}
use Rattle.flat_model.specs.declared.op.Op.{Op}
use Rattle.flat_model.specs.Needs.{need, removed_from}
use Rattle.flat_model.specs.Refusal.{is_refusal}
use Rattle.flat_model.specs.Step.{IsChoice, indexes_of, numbers_in, place_of, step}
use Rattle.flat_model.specs.Volume.{RunSub, RunVolume}
use Rattle.tree_frame.specs.Frame.{IsEdit, TakesAtMost}
use Rattle.table_volume.specs.Edited.{KeepsClean}
use Rattle.table_volume.specs.Gives.{AreAccounted}
use Rattle.table_volume.specs.Running.{GiveVolume}
use Rattle.volume_seal.specs.Sealed.{IsReady, states_reach}

-- the most blocks and buffers that an operation takes in a subvolume: 512, and 2 for each data block, inline extent and
-- attribute item that it removes; none where there is no such subvolume (own)
abbrev pub most_in : Option RunSub → Op → ℕ
most_in None op = 0
most_in (Some sub) op = 512 + 2 * removed_from sub.sub op

abbrev pub most_of : RunVolume → Op → ℕ
most_of run op = most_in (get run (place_of op).sub.0) op

-- the blocks and buffers that an operation has to have: none where it needs none, as it is refused or only reads (own)
abbrev pub room_of : RunVolume → Op → ℕ
room_of run op = cond (nat_eq (need run op) 0) 0 (most_of run op)

-- the two indexes above all that the subvolume of an operation has had in the run (own)
abbrev pub newest_indexes : RunVolume → Op → List ℕ
newest_indexes run op = ((numbers_in run (place_of op).sub.0).last_index + 1) ∷ ((numbers_in run (place_of op).sub.0).last_index + 2) ∷ []

-- A state behind an operation, and the one that its subvolume had before: the subvolume's number and the generation that new items
-- bear stay, and a block of its tree that isn't Dirty stood in its tree before, as it stands (own).
pub record IsNextOf (old new : Table) (before after : SubState) : Type 0 where
  pub owner : after.tree.owner ≡ before.tree.owner
  pub running : after.running ≡ before.running
  pub kept : KeepsClean old new before.tree after.tree

-- so it is for each of the states, in their order (own)
abbrev pub AreNextOf : Table → Table → List SubState → List SubState → Type 0
AreNextOf old new [] [] = Unit {0}
AreNextOf old new (before ∷ befores) (after ∷ afters) = IsNextOf old new before after × AreNextOf old new befores afters
AreNextOf old new before after = ⊥

-- The answer and the volume that the states then give are those of the definition, where the new names get these indexes, which
-- the operation leaves open: they are the next ones above all that the subvolume has had; it takes so many blocks at most; a refusal, and an operation that needs no block, leave the table and
-- the states as they were; it is an edit of the volume's blocks alone; trees that may be sealed still may; and no block is lost (own).
pub record IsDone (old new : Table) (before after : List SubState) (run : RunVolume) (op : Op) (answer : Answer) : Type 0 where
  pub indexes : List ℕ
  pub choice : IsChoice run op indexes
  pub newest : indexes ≡ indexes_of (step run op (newest_indexes run op)).made
  pub said : answer ≡ (step run op indexes).answer
  pub given : GiveVolume new after (step run op indexes).next
  pub taken : TakesAtMost old new (room_of run op)
  pub refused : is_refusal answer ≡ true → (new ≡ old) × (after ≡ before)
  pub idle : need run op ≡ 0 → (new ≡ old) × (after ≡ before)
  pub edit : IsEdit old new (states_reach old before) (states_reach new after)
  pub states : AreNextOf old new before after
  pub ready : (fsid : List ℕ) → All (λ state. IsReady old state.tree fsid) before → All (λ state. IsReady new state.tree fsid) after
  pub accounted : (outside : List ℕ) → AreAccounted old (outside ++ states_reach old before) → AreAccounted new (outside ++ states_reach new after)
