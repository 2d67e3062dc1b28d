-- The answer that refuses an operation.
use Rattle.std.specs.Prelude.{cond, Option, Some, None}
use Rattle.flat_model.specs.declared.answer.Answer.{Answer}
use Rattle.flat_model.specs.Operations.{Outcome}
use Rattle.flat_model.specs.Refusal.{is_refusal}

-- the answer of an operation that is refused, and none where it is done (own)
abbrev pub refusal_of : Outcome → Option Answer
refusal_of outcome = cond (is_refusal outcome.answer) (Some outcome.answer) None
