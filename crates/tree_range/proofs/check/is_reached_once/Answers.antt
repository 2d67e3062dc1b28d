use Rattle.std.proofs.Common.{◌*◌, true, refl, arith}
use Rattle.tree_range.specs.Shape.{tree_reach}
use Rattle.tree_range.proofs.Times.{none_twice_to, once_by_numbers, reach_taken}
use Rattle.tree_range.proofs.check.is_reached_once.Goals as goal

pub returns-then-times_below-gt1 : goal.returns-then-times_below-gt1
returns-then-times_below-gt1 c =
    (λ wrong. absurd cc, λ once. absurd (omega (arith, c.if-times_below-gt1.true, c.times_below.ensures, none_twice_to (tree_reach c.args.table.now c.args.tree.now) (c.loop-number.number * 4096) once)))

pub returns : goal.returns
returns c =
    (λ _. once_by_numbers c.args.table.now (tree_reach c.args.table.now c.args.tree.now) (reach_taken c.args.tree.now.level c.args.table.now true c.args.tree.now.root.0 c.requires) (λ number inside. c.loop-number.invariant number (omega (arith, c.blocks-number-end.ensures, inside))), λ _. refl)
