use Rattle.std.proofs.Common.{◌≤◌, length, sym, ap, subst, ◌∙◌, arith}
use Rattle.blk_base.specs.declared.key.Want.{Want}
use Rattle.tree_check.specs.Items.{items_answer}
use Rattle.tree_load.specs.Loaded.{tree_wanted}
use Rattle.tree_range.specs.Shape.{IsTree}
use Rattle.tree_mount.specs.Checks.{AreItemsRight}
use Rattle.tree_mount.proofs.Checking.{items_fail_by, items_pass, right_by}
use Rattle.tree_mount.proofs.Lists.{at_place, each_more, each_whole}
use Rattle.tree_mount.proofs.checks.check_items.Goals as goal

pub items-requires : goal.items-requires
items-requires c = subst (IsTree c.args.table.now) (sym c.tree_wanted.ensures) (at_place (λ (w : Want). IsTree c.args.table.now (tree_wanted w)) c.args.wants.now c.loop-want.want-index _ c.loop-want-test.true c.requires.trees)

pub returns-in-Err-clause-fault : goal.returns-in-Err-clause-fault
returns-in-Err-clause-fault c =
    items_fail_by c.args.table.now c.args.wants.now c.loop-want.want-index _ c.tree_wanted.result c.in-Err.fault c.of_tree.result c.tree_wanted.ensures c.loop-want-test.true c.loop-want.invariant.so_far c.in-Err.ensures.answer c.of_tree.ensures

pub loop-want-preserved : goal.loop-want-preserved
loop-want-preserved c = record {
  right = each_more (AreItemsRight c.args.table.now) c.args.wants.now c.loop-want.want-index _ c.loop-want-test.true c.loop-want.invariant.right
      (right_by c.args.table.now _ c.tree_wanted.result c.tree_wanted.ensures c.in_default.ensures.answer c.in_default.ensures.bytes c.in_default.ensures.keys);
  so_far = items_pass c.args.table.now c.args.wants.now c.loop-want.want-index _ c.loop-want-test.true c.loop-want.invariant.so_far (c.in_default.ensures.answer ∙ ap (items_answer c.args.table.now) c.tree_wanted.ensures);
}

pub returns-clause-ok : goal.returns-clause-ok
returns-clause-ok c =
    each_whole (AreItemsRight c.args.table.now) c.args.wants.now c.loop-want.want-index (let past : length c.args.wants.now ≤ c.loop-want.want-index = (let test = c.loop-want-test.false in omega arith) in past) c.loop-want.invariant.right
