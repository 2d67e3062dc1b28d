-- Facts on rows and their conditions.
use Rattle.std.proofs.Common.{◌≡◌, Bool, true, false, cond, ◌&&◌, ◌||◌, List, [], ◌∷◌, ◌++◌, Option, Some, None, refl, sym, ap, ◌∙◌}
use Rattle.flat_model.specs.declared.answer.Answer.{Answer}
use Rattle.flat_model.specs.Operations.{first_answer}
use Rattle.std.proofs.lemmas.Bool.{true≢false}
use Rattle.flat_model.proofs.Maps.{some_none}

-- ---- what the parts of a condition make of it

pub or_first : (a b whole : Bool) → a ≡ true → whole ≡ true → whole ≡ (a || b)
or_first a b whole e is = is ∙ sym (ap (λ t. t || b) e)

pub or_second : (a b whole : Bool) → a ≡ false → whole ≡ b → whole ≡ (a || b)
or_second a b whole e rest = rest ∙ sym (ap (λ t. t || b) e)

pub and_first : (a b whole : Bool) → a ≡ false → whole ≡ false → whole ≡ (a && b)
and_first a b whole e is = is ∙ sym (ap (λ t. t && b) e)

pub and_second : (a b whole : Bool) → a ≡ true → whole ≡ b → whole ≡ (a && b)
and_second a b whole e rest = rest ∙ sym (ap (λ t. t && b) e)

-- ---- what a row's condition makes of the answer

pub row_holds : (answer rest : Option Answer) (b : Bool) → b ≡ true → answer ≡ cond b answer rest
row_holds answer rest b e = sym (ap (λ t. cond t answer rest) e)

pub row_passes : (answer other rest : Option Answer) (b : Bool) → b ≡ false → answer ≡ rest → answer ≡ cond b other rest
row_passes answer other rest b e is = is ∙ sym (ap (λ t. cond t other rest) e)

some_answer : (answer : Answer) → None ≡ Some answer → ⊥
some_answer answer is = some_none answer (sym is)

-- a row before others decides
pub rows_decide : (rows more : List (Bool × Answer)) (answer : Answer) → Some answer ≡ first_answer rows → first_answer (rows ++ more) ≡ Some answer
rows_decide [] more answer is = absurd (some_none answer is)
rows_decide (row ∷ rows) more answer is =
    elim row.0 as (λ b. Some answer ≡ cond b (Some row.1) (first_answer rows) → cond b (Some row.1) (first_answer (rows ++ more)) ≡ Some answer) [
      | true ↦ λ e. sym e
      | false ↦ λ e. rows_decide rows more answer e
    ] is

-- no row before another decides
pub rows_pass : (rows more : List (Bool × Answer)) → None ≡ first_answer rows → first_answer (rows ++ more) ≡ first_answer more
rows_pass [] more is = refl
rows_pass (row ∷ rows) more is =
    elim row.0 as (λ b. None ≡ cond b (Some row.1) (first_answer rows) → cond b (Some row.1) (first_answer (rows ++ more)) ≡ first_answer more) [
      | true ↦ λ e. absurd (some_answer row.1 e)
      | false ↦ λ e. rows_pass rows more e
    ] is

-- no row's condition holds
abbrev pub NoneHolds : List (Bool × Answer) → Type 0
NoneHolds [] = Unit {0}
NoneHolds (row ∷ rows) = (row.0 ≡ false) × NoneHolds rows

pub none_holds : (rows : List (Bool × Answer)) → None ≡ first_answer rows → NoneHolds rows
none_holds [] is = tt
none_holds (row ∷ rows) is =
    elim row.0 as (λ b. None ≡ cond b (Some row.1) (first_answer rows) → (b ≡ false) × NoneHolds rows) [
      | true ↦ λ e. absurd (some_answer row.1 e)
      | false ↦ λ e. (refl, none_holds rows e)
    ] is

pub or_none : (a b : Bool) → (a || b) ≡ false → (a ≡ false) × (b ≡ false)
or_none true b e = absurd (true≢false e)
or_none false b e = (refl, e)
