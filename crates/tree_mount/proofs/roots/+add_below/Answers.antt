use Rattle.std.proofs.Common.{◌-◌, false, ap, ◌∙◌, arith}
use Rattle.std.proofs.lemmas.Result.{err_from_is_err_and}
use Rattle.tree_range.specs.Shape.{items_below}
use Rattle.tree_range.proofs.Times.{child_shape}
use Rattle.tree_check.proofs.Places.{on_ok}
use Rattle.volume_format.specs.Views.{super_view}
use Rattle.tree_mount.specs.Roots.{IsOtherBelow, IsOtherOf, with_items}
use Rattle.tree_mount.proofs.Lists.{if_err}
use Rattle.tree_mount.proofs.RootItems.{child_fails, child_passes, children_begin, leaf_alone, leaf_fails}
use Rattle.tree_mount.proofs.roots.+add_below.Goals as goal

pub returns-then-level-eq0-clause-ok : goal.returns-then-level-eq0-clause-ok
returns-then-level-eq0-clause-ok t c =
    on_ok c.add_leaf.result (λ h. ap (with_items (super_view c.args.superblock.now) c.args.wants.now.items) (leaf_alone c.args.table.now c.args.at.0 c.args.level c.block-block.result.now c.of_body.result (omega (arith, c.if-level-eq0.true)) c.block-block.ensures c.of_body.ensures) ∙ h) c.add_leaf.ensures.ok

pub returns-then-level-eq0-clause-fault : goal.returns-then-level-eq0-clause-fault
returns-then-level-eq0-clause-fault t c =
    if_err (IsOtherOf (with_items (super_view c.args.superblock.now) c.args.wants.now.items c.of_body.result) c.of_body.result c.args.at)
    (IsOtherBelow (with_items (super_view c.args.superblock.now) c.args.wants.now.items (items_below c.args.level c.args.table.now c.args.at.0)) c.args.table.now c.args.level c.args.at.0) c.add_leaf.result
    (λ fault h. leaf_fails (super_view c.args.superblock.now) c.args.wants.now.items c.args.table.now c.args.at c.args.level c.block-block.result.now c.of_body.result fault (omega (arith, c.if-level-eq0.true)) c.block-block.ensures c.of_body.ensures h) c.add_leaf.ensures.fault

pub loop-place-init : goal.loop-place-init
loop-place-init t c =
    ap (with_items (super_view c.args.superblock.now) c.args.wants.now.items) (children_begin c.args.table.now c.args.at.0 c.args.level c.block-block.result.now c.of_body-node.result (omega (arith, c.if-level-eq0.false)) c.block-block.ensures c.of_body-node.ensures)

pub add_below-requires : goal.add_below-requires
add_below-requires t c =
    (omega (arith, c.if-level-eq0.false), (false, child_shape c.args.level c.args.table.now c.requires.0 c.args.at.0 c.block-block.result.now c.of_body-node.result c.loop-place.place c.child.result.0.0 c.child.result.1 (omega (arith, c.if-level-eq0.false)) c.block-block.ensures c.of_body-node.ensures c.requires.1 c.child.ensures))

pub returns-in_err-add_below-clause-fault : goal.returns-in_err-add_below-clause-fault
returns-in_err-add_below-clause-fault t c =
    let p = err_from_is_err_and c.from_residual.result c.from_residual.ensures.1 in
    rw (p.1, p.2) (child_fails (super_view c.args.superblock.now) c.args.wants.now.items c.loop-place.wants.items c.args.table.now c.args.at.0 c.args.level c.block-block.result.now c.of_body-node.result c.loop-place.place c.child.result.0.0 c.child.result.1 c.in_err-add_below.field-0.0 (omega (arith, c.if-level-eq0.false)) c.block-block.ensures c.of_body-node.ensures
    c.child.ensures c.loop-place.invariant c.in_err-add_below.ensures.fault)

pub loop-place-preserved : goal.loop-place-preserved
loop-place-preserved t c =
    c.loop-place.invariant ∙ child_passes (super_view c.args.superblock.now) c.loop-place.wants.items c.add_below.new.wants.items (c.args.level - 1) c.args.table.now c.of_body-node.result c.loop-place.place c.child.result.0.0 c.child.result.1 c.child.ensures c.in_ok-add_below.ensures.ok
