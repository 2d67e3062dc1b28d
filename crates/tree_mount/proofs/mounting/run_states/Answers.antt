use Rattle.std.proofs.Common.{sym, subst}
use Rattle.block_table.specs.declared.tree.Tree.{Tree}
use Rattle.tree_check.specs.Items.{HaveKeys}
use Rattle.tree_range.specs.Shape.{IsTree, tree_items}
use Rattle.tree_mount.specs.Checks.{IsCheckable}
use Rattle.tree_mount.proofs.Lists.{at_place}
use Rattle.tree_mount.proofs.Running.{each_state, run_by, trees_more}
use Rattle.tree_mount.proofs.mounting.run_states.Goals as goal

pub run_state-requires-clause-tree : goal.run_state-requires-clause-tree
run_state-requires-clause-tree c = subst (IsTree c.args.table.now) (sym c.tree_wanted.ensures) (at_place (IsCheckable c.args.table.now) c.args.wants.now c.loop-want.want-index _ c.loop-want-test.true c.requires.checked).tree

pub run_state-requires-clause-keys : goal.run_state-requires-clause-keys
run_state-requires-clause-keys c = subst (λ (t : Tree). HaveKeys (tree_items c.args.table.now t)) (sym c.tree_wanted.ensures) (at_place (IsCheckable c.args.table.now) c.args.wants.now c.loop-want.want-index _ c.loop-want-test.true c.requires.checked).keys

pub loop-want-preserved : goal.loop-want-preserved
loop-want-preserved c = record {
  trees = trees_more c.args.wants.now c.loop-want.want-index _ c.loop-want.states.items c.push.new.self.items c.run_state.result c.tree_wanted.result c.tree_wanted.ensures c.loop-want-test.true c.run_state.ensures.tree_is c.in_ok-push.ensures.items c.loop-want.invariant.trees;
  each = each_state c.args.table.now c.args.running c.loop-want.states.items c.push.new.self.items c.run_state.result c.in_ok-push.ensures.items c.loop-want.invariant.each (run_by c.args.table.now c.args.running c.run_state.result c.tree_wanted.result c.run_state.ensures.running c.run_state.ensures.tree_is c.run_state.ensures.gives);
}
