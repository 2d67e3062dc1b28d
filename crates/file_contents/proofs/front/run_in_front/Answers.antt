-- The last run in front of a hole ends there, or none does.
use Rattle.tree_range.specs.Shape.{tree_items}
use Rattle.file_contents.proofs.Runs.{in_front, none_in_front}
use Rattle.file_contents.proofs.front.run_in_front.Goals as goal

pub returns-in-Some : goal.returns-in-Some
returns-in-Some c = λ blocks contents hold none.
    let run = c.in-Some.run' in
    in_front (tree_items c.args.table.now c.args.tree.now) blocks c.args.ino.0 contents hold c.args.number run.begin run.at.0 run.blocks none (c.in-Some.ensures blocks contents hold)

pub returns-in-None : goal.returns-in-None
returns-in-None c = λ blocks contents hold none.
    none_in_front (tree_items c.args.table.now c.args.tree.now) blocks c.args.ino.0 contents hold c.args.number (c.in-None.ensures blocks contents hold)
