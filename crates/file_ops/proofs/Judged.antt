-- Which answer refuses an operation, by its rows.
use Rattle.std.proofs.Common.{◌≡◌, Bool, true, false, cond, List, Option, Some, None, sym, ap, ◌∙◌}
use Rattle.flat_model.specs.declared.answer.Answer.{Answer}
use Rattle.flat_model.specs.Operations.{Outcome, first_answer, unchanged, unless_refused}
use Rattle.flat_model.specs.Refusal.{is_refusal}
use Rattle.flat_model.specs.Volume.{RunSub}
use Rattle.file_ops.specs.Refused.{refusal_of}

-- a row that holds refuses
pub refused_by : (run : RunSub) (rows : List (Bool × Answer)) (done : Outcome) (answer : Answer) → is_refusal answer ≡ true → first_answer rows ≡ Some answer → Some answer ≡ refusal_of (unless_refused run rows done)
refused_by run rows done answer refuses is =
    sym (ap (λ (o : Option Answer). refusal_of (elim o as (λ o. Outcome) [ None ↦ done | Some a ↦ unchanged run a ])) is ∙ ap (λ (b : Bool). cond b (Some answer) None) refuses)

-- none holds
pub refused_by_none : (run : RunSub) (rows : List (Bool × Answer)) (done : Outcome) → is_refusal done.answer ≡ false → first_answer rows ≡ None → None ≡ refusal_of (unless_refused run rows done)
refused_by_none run rows done works is =
    sym (ap (λ (o : Option Answer). refusal_of (elim o as (λ o. Outcome) [ None ↦ done | Some a ↦ unchanged run a ])) is ∙ ap (λ (b : Bool). cond b (Some done.answer) None) works)
