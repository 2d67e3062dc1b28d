use Rattle.std.proofs.Common.{List, ℕ, Ok, ap, sym, ◌∙◌}
use Rattle.std.proofs.lemmas.Bool.{false≢true}
use Rattle.script_text.proofs.WordLemmas.{name_is, name_is_none, spells_so}
use Rattle.script_text.proofs.path.name.Goals as goal

pub returns-then-not-is_name : goal.returns-then-not-is_name
returns-then-not-is_name c = name_is_none c.args.piece.now c.as_slice.result.now (spells_so _ _ _ c.in_ok-bytes.ensures c.as_slice.ensures.value) (λ is. false≢true (sym c.if-not-is_name.true ∙ c.is_name.ensures.1 is))

pub returns : goal.returns
returns c =
    name_is c.args.piece.now c.as_slice.result.now (spells_so _ _ _ c.in_ok-bytes.ensures c.as_slice.ensures.value) (c.is_name.ensures.0 c.if-not-is_name.false)
    ∙ ap (λ (name : List ℕ). Ok name) (c.as_slice.ensures.value ∙ sym c.as_slice-2.ensures.value ∙ sym c.in_ok-new.ensures)
