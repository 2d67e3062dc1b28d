-- The room for an operation that removes data blocks.
use Rattle.std.specs.Prelude.{◌+◌, ◌*◌, ℕ, cond}
use Rattle.flat_model.specs.Operations.{Outcome}
use Rattle.flat_model.specs.Refusal.{is_refusal}

-- the most blocks and buffers that an operation takes which removes so many data blocks (own)
abbrev pub most_for : ℕ → ℕ
most_for removed = 512 + 2 * removed

-- the room that an operation has to have: none where it is refused (own)
abbrev pub room_for : Outcome → ℕ → ℕ
room_for outcome removed = cond (is_refusal outcome.answer) 0 (most_for removed)
