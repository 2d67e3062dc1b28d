use Rattle.std.proofs.Common.{ℕ, List, [], ◌∷◌, ◌++◌, ◌≤◌, length, take, refl, subst, sym, ap, ◌∙◌}
use Rattle.std.specs.Prelude.{All}
use Rattle.std.proofs.lemmas.List.{take_more, take_all}
use Rattle.std.proofs.lemmas.List.Elements.{All-append, All-cons, All-nil}
use Rattle.flat_model.specs.Coherent.{IsNameBytes}
use Rattle.flat_model.specs.Walk.{WalkEnd, walk}
use Rattle.name_walk.specs.Leads.{IsStep}
use Rattle.name_walk.proofs.Ways.{walk_more}
use Rattle.name_walk.proofs.paths.steps.Goals as goal

pub loop-name-init : goal.loop-name-init
loop-name-init c = record { leads = λ sub given. refl; spelled = All-nil IsNameBytes }

pub loop-name-preserved : goal.loop-name-preserved
loop-name-preserved c =
    let names : List (List ℕ) = c.names-names.result.now in
    let i = c.loop-name.name-index in
    let last : List ℕ = c.as_bytes.result.now in
    let taken = take_more names i c.name-item.result c.loop-name-test.true in
    let here = taken ∙ ap (λ x. take i names ++ x ∷ []) (sym c.name-item.is ∙ sym c.as_bytes.ensures.value) in
    record {
      leads = λ sub given.
          let longer = ap (walk sub) here ∙ walk_more sub given.coherent (take i names) last in
          subst (λ (w : WalkEnd). IsStep sub w c.next_step-step.result) (sym longer) (c.next_step-step.ensures sub (walk sub (take i names)) given (c.loop-name.invariant.leads sub given));
      spelled = subst (All IsNameBytes) (sym here)
          (All-append IsNameBytes (take i names) (last ∷ []) c.loop-name.invariant.spelled
          (All-cons IsNameBytes last [] (subst IsNameBytes (sym c.as_bytes.ensures.value) (c.as_bytes.ensures.name, c.as_bytes.ensures.bytes)) (All-nil IsNameBytes)));
    }

pub returns-clause-step : goal.returns-clause-step
returns-clause-step c = λ sub given.
    let names : List (List ℕ) = c.names-names.result.now in
    let all = take_all c.loop-name.name-index names c.loop-name-test.false ∙ c.names-names.ensures.value in
    subst (λ (w : WalkEnd). IsStep sub w c.loop-name.step) (ap (walk sub) all) (c.loop-name.invariant.leads sub given)

pub returns-clause-path : goal.returns-clause-path
returns-clause-path c =
    let names : List (List ℕ) = c.names-names.result.now in
    let all = take_all c.loop-name.name-index names c.loop-name-test.false ∙ c.names-names.ensures.value in
    (subst (λ (path : List (List ℕ)). length path ≤ 64) c.names-names.ensures.value c.names-names.ensures.few, subst (All IsNameBytes) all c.loop-name.invariant.spelled)
