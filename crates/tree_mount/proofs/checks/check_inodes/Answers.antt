use Rattle.std.proofs.Common.{sym, subst}
use Rattle.block_table.specs.declared.tree.Tree.{Tree}
use Rattle.tree_check.specs.Items.{HaveKeys}
use Rattle.tree_range.specs.Shape.{IsTree, tree_items}
use Rattle.tree_mount.specs.Checks.{IsCheckable}
use Rattle.tree_mount.proofs.Lists.{at_place}
use Rattle.tree_mount.proofs.checks.check_inodes.Goals as goal

pub coherent-requires-clause-tree : goal.coherent-requires-clause-tree
coherent-requires-clause-tree c = subst (IsTree c.args.table.now) (sym c.tree_wanted.ensures) (at_place (IsCheckable c.args.table.now) c.args.wants.now c.loop-want.want-index _ c.loop-want-test.true c.requires.checked).tree

pub coherent-requires-clause-keys : goal.coherent-requires-clause-keys
coherent-requires-clause-keys c = subst (λ (t : Tree). HaveKeys (tree_items c.args.table.now t)) (sym c.tree_wanted.ensures) (at_place (IsCheckable c.args.table.now) c.args.wants.now c.loop-want.want-index _ c.loop-want-test.true c.requires.checked).keys
