-- Which answer a list of rows gives.
use Rattle.std.proofs.Common.{◌≡◌, Bool, List, Some, None, sym, ap, ◌∙◌}
use Rattle.flat_model.specs.declared.answer.Answer.{Answer}
use Rattle.flat_model.specs.Volume.{RunSub}
use Rattle.flat_model.specs.Operations.{Outcome, first_answer, unless_refused, unchanged}
use Rattle.flat_sub.specs.Ends.{ComesTo}

-- a row holds
pub refused : (run : RunSub) (rows : List (Bool × Answer)) (done : Outcome) (answer : Answer) → first_answer rows ≡ Some answer → ComesTo (unless_refused run rows done) run answer
refused run rows done answer is = record {
  next = sym (ap (λ o. (elim o as (λ o. Outcome) [ None ↦ done | Some a ↦ unchanged run a ]).next) is);
  answer = sym (ap (λ o. (elim o as (λ o. Outcome) [ None ↦ done | Some a ↦ unchanged run a ]).answer) is);
}

-- none does
pub finished : (run : RunSub) (rows : List (Bool × Answer)) (done : Outcome) (next : RunSub) (answer : Answer) → first_answer rows ≡ None → next ≡ done.next → answer ≡ done.answer → ComesTo (unless_refused run rows done) next answer
finished run rows done next answer is next_is answer_is = record {
  next = next_is ∙ sym (ap (λ o. (elim o as (λ o. Outcome) [ None ↦ done | Some a ↦ unchanged run a ]).next) is);
  answer = answer_is ∙ sym (ap (λ o. (elim o as (λ o. Outcome) [ None ↦ done | Some a ↦ unchanged run a ]).answer) is);
}
