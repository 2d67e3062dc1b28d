-- What it means that an operation was carried out.
use Rattle.std.specs.Prelude.{◌≡◌, ℕ, List}
use Rattle.flat_model.specs.declared.answer.Answer.{Answer}
use Rattle.flat_model.specs.declared.op.Op.{Op}
use Rattle.flat_model.specs.Volume.{RunVolume}
use Rattle.flat_model.specs.Step.{AreNextIndexes, numbers_in, place_of, step}

-- an operation was carried out, and its new names got indexes that they may have
pub record IsApplied (old new : RunVolume) (op : Op) (answer : Answer) : Type 0 where
  pub indexes : List ℕ
  pub next_indexes : AreNextIndexes (numbers_in old (place_of op).sub.0) (step old op indexes).made
  pub next : new ≡ (step old op indexes).next
  pub said : answer ≡ (step old op indexes).answer
