-- An operation in the state at a place, as one of all states.
use Rattle.std.proofs.Common.{◌≡◌, ◌∙◌, ◌<◌, ◌+◌, ◌*◌, ℕ, suc, true, List, ◌∷◌, ◌++◌, length, take, drop, set, Result, Ok, Err, Some, refl, sym, subst, zero-le}
use Rattle.std.specs.Prelude.{IfOk}
use Rattle.std.specs.FinMap.{get}
use Rattle.block_table.specs.declared.tree.SubState.{SubState}
use Rattle.block_table.specs.Table.{Table}
use Rattle.flat_model.specs.declared.answer.Answer.{Answer}
use Rattle.flat_model.specs.declared.op.Op.{Op}
use Rattle.flat_model.specs.Needs.{least_need, removed_from}
use Rattle.flat_model.specs.Step.{is_within_sub, outcome_of, place_of}
use Rattle.flat_model.specs.Volume.{RunSub, RunVolume}
use Rattle.table_volume.specs.Operated.{IsOperated}
use Rattle.table_volume.specs.Running.{GiveVolume, GivesPart, GivesRun}
use Rattle.volume_ops.specs.Done.{IsDone}
use Rattle.volume_ops.specs.Needs.{next_indexes}
use Rattle.volume_ops.proofs.Doing.{operated_more, part_at, within_done}
use Rattle.volume_ops.proofs.Among.{IsAmong, set_cut}

-- ---- the subvolume of an operation's places

-- the volume has it, and the state gives it
pub record IsPlaced (table : Table) (state : SubState) (run : RunVolume) (op : Op) : Type 0 where
  pub sub : RunSub
  pub there : get run (place_of op).sub.0 ≡ Some sub
  pub gives : GivesRun table state sub

pub placed : (table : Table) (states : List SubState) (place : ℕ) (state : SubState) (run : RunVolume) (op : Op) → GiveVolume table states run → IsAmong states place (place_of op).sub.0 state → IsPlaced table state run op
placed table states place state run op volume at =
    let part : GivesPart table run state = part_at table (take place states) (drop (suc place) states) state run (subst (λ (l : List SubState). GiveVolume table l run) at.cut volume) in
    record { sub = part.sub; there = subst (λ (id : ℕ). get run id ≡ Some part.sub) at.owner part.there; gives = part.gives }

-- ---- what it comes to

pub one_done : (old new : Table) (states : List SubState) (place : ℕ) (before after : SubState) (run : RunVolume) (op : Op) (indexes : List ℕ) → GiveVolume old states run → IsAmong states place (place_of op).sub.0 before → place < length states → is_within_sub op ≡ true
    → indexes ≡ next_indexes before → (least_need op ≡ 0 → (new ≡ old) × (after ≡ before)) → (answer : Answer) → ((sub : RunSub) → GivesRun old before sub → IsOperated old new before after sub (outcome_of sub op indexes) answer (512 + 2 * removed_from sub.sub op))
    → IsDone old new states (set states place after) run op answer
one_done old new states place before after run op indexes volume at inside within next idle answer operated =
    subst (λ (l : List SubState). IsDone old new states l run op answer) (sym (set_cut states place after inside))
    (subst (λ (l : List SubState). IsDone old new l (take place states ++ after ∷ drop (suc place) states) run op answer) (sym at.cut)
    (within_done old new (take place states) (drop (suc place) states) before after run op answer indexes (subst (λ (l : List SubState). GiveVolume old l run) at.cut volume) at.owner within next idle operated))

-- a state in its own place
placed_same : (states : List SubState) (place id : ℕ) (state : SubState) → IsAmong states place id state → place < length states → set states place state ≡ states
placed_same states place id state at inside = set_cut states place state inside ∙ sym at.cut

-- what only reads leaves all states as they were
pub placed_read : (table : Table) (states : List SubState) (place : ℕ) (state : SubState) (run : RunVolume) (op : Op) (indexes : List ℕ) → GiveVolume table states run → IsAmong states place (place_of op).sub.0 state → place < length states → is_within_sub op ≡ true → indexes ≡ next_indexes state
    → {E : Type 0} (r : Result Answer E) → ((sub : RunSub) → GivesRun table state sub → IfOk r (λ answer. IsOperated table table state state sub (outcome_of sub op indexes) answer 0)) → IfOk r (λ answer. IsDone table table states states run op answer)
placed_read table states place state run op indexes volume at inside within next (Ok answer) operated =
    subst (λ (l : List SubState). IsDone table table states l run op answer) (placed_same states place (place_of op).sub.0 state at inside)
    (one_done table table states place state state run op indexes volume at inside within next (λ reads. (refl, refl)) answer (λ sub gives. operated_more table table state state sub (outcome_of sub op indexes) answer 0 (512 + 2 * removed_from sub.sub op) zero-le (operated sub gives)))
placed_read table states place state run op indexes volume at inside within next (Err e) operated = tt
