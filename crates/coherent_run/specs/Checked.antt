-- What is known of a tree once its items and its data blocks were checked.
use Rattle.std.specs.Prelude.{◌≡◌, true, Ok}
use Rattle.block_table.specs.declared.tree.Tree.{Tree}
use Rattle.block_table.specs.Table.{Table}
use Rattle.tree_check.specs.Blocks.{IsDataAnswer, tree_data}
use Rattle.tree_check.specs.Items.{AreBytes, items_answer}
use Rattle.tree_load.specs.Loaded.{IsLoad}
use Rattle.tree_range.specs.Shape.{IsTree, tree_items, tree_reach}

-- The checks of its items and of its data blocks were Ok, and the second put the blocks into the table, which had the tree alone of them.
pub record AreChecked (old new : Table) (tree : Tree) : Type 0 where
  pub before : IsTree old tree
  pub bytes : AreBytes (tree_items old tree)
  pub items : items_answer old tree ≡ Ok tt
  pub blocks : IsDataAnswer old (tree_data old tree) (Ok tt)
  pub load : IsLoad true old new (tree_data old tree)
  pub stands : IsTree new tree
  pub same_items : tree_items new tree ≡ tree_items old tree
  pub same_reach : tree_reach new tree ≡ tree_reach old tree
