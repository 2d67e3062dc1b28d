use Rattle.std.proofs.Common.{◌-◌, min, ℕ, false, [], ◌∷◌, ap, ◌∙◌, arith}
use Rattle.tree_range.specs.Part.{times_in}
use Rattle.tree_range.proofs.Times.{child_shape, times_all, times_more}
use Rattle.tree_range.proofs.check.+times_below.Goals as goal

pub times_below-more-requires : goal.times_below-more-requires
times_below-more-requires t c =
    (omega (arith, c.if-level-eq0.false), (false, child_shape c.args.level c.args.table.now c.requires.0 c.args.at.0 c.block.result.now c.of_body-node.result c.loop-place.place c.child.result.0.0 c.child.result.1 (omega (arith, c.if-level-eq0.false)) c.block.ensures c.of_body-node.ensures c.requires.1 c.child.ensures))

pub loop-place-preserved : goal.loop-place-preserved
loop-place-preserved t c =
    c.min-times.ensures ∙ times_more (c.args.level - 1) c.args.table.now c.of_body-node.result c.loop-place.place c.child.result.0.0 c.child.result.1 c.args.wanted.0 c.loop-place.times c.times_below-more.result (times_in c.args.wanted.0 (c.args.at.0 ∷ [])) c.child.ensures c.times_below-more.ensures c.loop-place.invariant

pub returns : goal.returns
returns t c =
    c.loop-place.invariant ∙ ap (λ (n : ℕ). min 2 n) (times_all c.args.level c.args.table.now c.args.at.0 c.block.result.now c.of_body-node.result c.loop-place.place c.args.wanted.0 (omega (arith, c.if-level-eq0.false)) c.block.ensures c.of_body-node.ensures (omega (arith, c.len-place-end.ensures.value)))
