-- What an operation needs in a subvolume.
use Rattle.std.specs.Prelude.{◌+◌, ◌*◌, ℕ, cond, List, [], ◌∷◌, Option, None, nat_eq}
use Rattle.block_table.specs.declared.tree.SubState.{SubState}
use Rattle.flat_model.specs.declared.answer.Answer.{Answer}
use Rattle.flat_model.specs.declared.op.Op.{Op}
use Rattle.flat_model.specs.Needs.{least_need, removed_from}
use Rattle.flat_model.specs.Refusal.{is_refusal}
use Rattle.flat_model.specs.Step.{outcome_of}
use Rattle.flat_model.specs.Volume.{RunSub}
use Rattle.name_ops.specs.Refused.{refusal_of}

-- the indexes that the next two names get
abbrev pub next_indexes : SubState → List ℕ
next_indexes state = state.next_index ∷ (state.next_index + 1) ∷ []

-- the answer of an operation that is refused, and none where it is done or only reads (own)
abbrev pub refusal_in : RunSub → Op → List ℕ → Option Answer
refusal_in run op indexes = cond (nat_eq (least_need op) 0) None (refusal_of (outcome_of run op indexes))

-- how many blocks have to be free for an operation, and none where it is refused (own)
abbrev pub need_in : RunSub → Op → List ℕ → ℕ
need_in run op indexes = cond (is_refusal (outcome_of run op indexes).answer) 0 (least_need op + 2 * removed_from run.sub op)

-- the blocks and buffers that an operation takes at most, and none where it is refused (own)
abbrev pub room_in : RunSub → Op → List ℕ → ℕ
room_in run op indexes = cond (is_refusal (outcome_of run op indexes).answer) 0 (512 + 2 * removed_from run.sub op)
