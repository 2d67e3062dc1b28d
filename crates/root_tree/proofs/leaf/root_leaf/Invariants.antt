-- So many of the root items stand in the leaf.
use Rattle.std.proofs.Common.{take}
use Rattle.root_tree.specs.Roots.{root_entries}
use Rattle.root_tree.proofs.Filled.{IsFilling}
use Rattle.root_tree.proofs.leaf.root_leaf.Given as goal

abbrev pub invariant-loop-place : goal.invariant-loop-place
invariant-loop-place l = IsFilling l.initial.table l.table l.at.0 (root_entries (take l.place l.roots))
