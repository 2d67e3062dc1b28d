use Rattle.std.proofs.Common.{◌∙◌}
use Rattle.tree_check.proofs.Marking.{once_is}
use Rattle.tree_check.proofs.marks.once.Goals as goal

pub returns : goal.returns
returns c =
    once_is c.args.table.now c.args.trees.now c.loop-tree.tree-index c.blocks-blocks.result c.deref_mut.result.now c.mark_runs.new.marks c.deref.result.now c.loop-tree.runs.items c.mark_runs.result
    c.loop-tree-test.false c.loop-tree.invariant c.deref.ensures.value c.blocks-blocks.ensures (c.deref_mut.ensures.value ∙ c.in-Ok.ensures.items_if_clones_equal (λ mark is. is)) c.mark_runs.ensures.ok c.mark_runs.ensures.fault
