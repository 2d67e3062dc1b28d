use Rattle.std.proofs.Common.{◌≡◌, take}
use Rattle.tree_check.specs.Blocks.{runs_of, trees_data}
use Rattle.tree_check.proofs.marks.once.Given as goal

abbrev pub invariant-loop-tree : goal.invariant-loop-tree
invariant-loop-tree l = runs_of l.runs.items ≡ trees_data l.table (take l.tree-index l.trees)
