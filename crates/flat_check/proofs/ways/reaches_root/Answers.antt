use Rattle.std.proofs.Common.{◌≡◌, ◌-◌, ◌+◌, suc, length, sym, ap, ◌∙◌, arith}
use Rattle.flat_sub.specs.View.{names_view}
use Rattle.flat_sub.proofs.Placed.{length_view}
use Rattle.flat_check.specs.Parts.{reaches_root}
use Rattle.flat_check.proofs.Steps.{reached_or_not, step_up}
use Rattle.flat_check.proofs.ways.reaches_root.Goals as goal

pub loop-step-preserved : goal.loop-step-preserved
loop-step-preserved c =
    let names = names_view c.args.sub.now.names.items c.args.sub.now.near.items in
    let i = c.loop-step._step-index in
    let long = length_view c.args.sub.now.names.items c.args.sub.now.near.items c.requires.marked in
    let fewer : length names - i ≡ suc (length names - (i + 1)) = omega (arith, long, c.loop-step-test.true, c.deref-step-items.ensures.len) in
    ap (reaches_root names (length names - (i + 1))) c.dir_above-at.ensures ∙ sym (step_up names (length names - i) (length names - (i + 1)) c.loop-step.at fewer c.if-at-eq-ROOT.false) ∙ c.loop-step.invariant

pub returns : goal.returns
returns c =
    let names = names_view c.args.sub.now.names.items c.args.sub.now.near.items in
    let i = c.loop-step._step-index in
    let long = length_view c.args.sub.now.names.items c.args.sub.now.near.items c.requires.marked in
    let none : length names - i ≡ 0 = omega (arith, long, c.loop-step-test.false, c.deref-step-items.ensures.len) in
    sym (reached_or_not names (length names - i) c.loop-step.at none) ∙ c.loop-step.invariant
