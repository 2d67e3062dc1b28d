use Rattle.std.proofs.Common.{arith}
use Rattle.tree_range.specs.Shape.{tree_items}
use Rattle.file_extents.specs.Extents.{HasRun}
use Rattle.file_extents.proofs.Items.{are_sole}
use Rattle.file_extents.proofs.Last.{none_over, over_or_none}
use Rattle.file_extents.proofs.cut.run_over.Goals as goal

pub returns-in-None : goal.returns-in-None
returns-in-None c = λ blocks contents hold.
    over_or_none (HasRun (tree_items c.args.table.now c.args.tree.now) c.args.ino.0) c.args.number (c.in-None.ensures blocks contents hold)

pub returns-then-number-run : goal.returns-then-number-run
returns-then-number-run c = λ blocks contents hold.
    let run = c.in-Some.run' in
    none_over (HasRun (tree_items c.args.table.now c.args.tree.now) c.args.ino.0) blocks contents c.args.number run.begin run.at.0 run.blocks (are_sole (tree_items c.args.table.now c.args.tree.now) c.args.ino.0) hold.are (c.in-Some.ensures blocks contents hold)
    (λ less. absurd (omega (arith, less, c.if-number-run.true)))
