use Rattle.std.proofs.Common.{◌<◌, length, drop, length-drop, sym, ◌∙◌, arith}
use Rattle.flat_model.specs.Walk.{is_below}
use Rattle.name_ops.proofs.Below.{below_end}
use Rattle.name_ops.proofs.places.is_below.Goals.{then-loop-at-test+else-at-lowers, else-loop-at-test}
use Rattle.name_ops.proofs.places.is_below.Goals as goal

pub returns : goal.returns
returns c =
    let us = c.names-uppers.result.now in
    let ls = c.names-lowers.result.now in
    let at = c.loop-at.at in
    let ended = elim c.loop-at-test.branch as (λ _. at < length us → at < length ls → ⊥) [ then-loop-at-test+else-at-lowers w ↦ λ a b. omega (arith, w.if-at-lowers.false) | else-loop-at-test w ↦ λ a b. omega (arith, w.loop-at-test.false) ] in
    below_end (drop at us) (drop at ls) (length us) (length ls) at (length-drop at us) (length-drop at ls) c.loop-at.invariant.1 c.loop-at.invariant.2 ended
    ∙ sym c.loop-at.invariant.0 ∙ (λ i. is_below (c.names-uppers.ensures.value i) (c.names-lowers.ensures.value i))
