-- What is left: the tree's blocks, and those of the items in front of the range, from the next key on in it, and behind it.
use Rattle.std.proofs.Common.{◌++◌, length}
use Rattle.tree_range.specs.Between.{items_between}
use Rattle.tree_range.specs.Shape.{tree_items, tree_reach}
use Rattle.table_volume.specs.Gives.{tree_data}
use Rattle.data_release.specs.LetGo.{AreLeft, behind, files, in_front}
use Rattle.data_release.proofs.files.let_go_between.Given as goal

abbrev pub invariant-loop-key : goal.invariant-loop-key
invariant-loop-key l =
    AreLeft l.initial.table l.table (tree_reach l.initial.table l.tree ++ tree_data l.initial.table l.tree)
    (tree_reach l.initial.table l.tree ++ (files (in_front l.first (tree_items l.initial.table l.tree)) ++ (files (items_between l.from l.last (tree_items l.initial.table l.tree)) ++ files (behind l.last (tree_items l.initial.table l.tree)))))

abbrev pub decreases-loop-key : goal.decreases-loop-key
decreases-loop-key l = length (items_between l.from l.last (tree_items l.initial.table l.tree))
