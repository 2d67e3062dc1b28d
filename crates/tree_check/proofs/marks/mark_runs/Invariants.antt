use Rattle.std.proofs.Common.{take}
use Rattle.tree_check.specs.Blocks.{AreMore, runs_of}
use Rattle.tree_check.proofs.marks.mark_runs.Given as goal

abbrev pub invariant-loop-run : goal.invariant-loop-run
invariant-loop-run l = AreMore l.fn.blocks l.fn.marks l.marks (runs_of (take l.run-index l.runs))
