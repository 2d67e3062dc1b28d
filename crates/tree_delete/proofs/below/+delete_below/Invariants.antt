use Rattle.tree_delete.proofs.below.+delete_below.Given as goal

abbrev pub decreases-delete_below : goal.decreases-delete_below
decreases-delete_below l = l.level
