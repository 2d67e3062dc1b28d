use Rattle.std.proofs.Common.{None, refl, sym, subst, ◌∙◌}
use Rattle.std.proofs.lemmas.Bool.{true≢false}
use Rattle.flat_model.proofs.Maps.{some_none}
use Rattle.call_steps.specs.Steps.{HasHandedOut}
use Rattle.call_steps.proofs.Turns.{full_is_held, has_to_wait, sealed_out, stays}
use Rattle.call_steps.proofs.call.Call.seal_or_wait.Goals as goal

pub seal_full-requires-clause-has : goal.seal_full-requires-clause-has
seal_full-requires-clause-has g c =
    let may = c.requires.may in
    (may.0, may.1, may.2, (c.may_seal_full.ensures may.0 may.1 may.2).0 c.if-may_seal_full.true)

pub returns-then-may_seal_full-clause-stepped : goal.returns-then-may_seal_full-clause-stepped
returns-then-may_seal_full-clause-stepped g c mounted scene has may uncovered =
    subst (λ next. HasHandedOut (g.C.Core.has c.seal_full.new.self) mounted scene c.args.self.now next None c.seal_full.result) (stays c.args.self.now c.requires.wants)
    (sealed_out (g.C.Core.has c.seal_full.new.self) mounted scene c.args.self.now may.orderly may.at c.requires.wants uncovered may.back c.seal_full.result
    (c.seal_full.ensures.sealed mounted scene has ((c.may_seal_full.ensures mounted scene has).0 c.if-may_seal_full.true)))

pub unreachable-requires : goal.unreachable-requires
unreachable-requires g c =
    let may = c.requires.may in
    let held = full_is_held (g.C.Core.has c.args.core.now) may.0 may.1 c.args.self.now may.3.orderly may.3.at c.requires.wants may.4 may.3.back
    (λ may_seal. true≢false (sym ((c.may_seal_full.ensures may.0 may.1 may.2).1 may_seal) ∙ c.if-may_seal_full.false)) in
    some_none held.0 (sym held.1 ∙ sym (c.holder.ensures may.0 may.1 may.2) ∙ c.in_default.is)

pub returns-clause-stepped : goal.returns-clause-stepped
returns-clause-stepped g c mounted scene has may uncovered = (
  refl,
  refl,
  has_to_wait (g.C.Core.has c.args.core.now) mounted scene c.args.self.now may.orderly may.at c.requires.wants uncovered may.back c.in-Some.holder
      (λ may_seal. true≢false (sym ((c.may_seal_full.ensures mounted scene has).1 may_seal) ∙ c.if-may_seal_full.false))
      (sym (c.holder.ensures mounted scene has) ∙ c.in-Some.is),
)
