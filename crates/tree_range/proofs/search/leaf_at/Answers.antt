use Rattle.std.proofs.Common.{refl}
use Rattle.tree_range.specs.Shape.{tree_items}
use Rattle.tree_range.specs.Between.{data_under}
use Rattle.tree_range.proofs.Looked.{get_absent, held, none_held, read}
use Rattle.tree_range.proofs.search.leaf_at.Goals as goal

pub returns-in-Ok-clause-leaf : goal.returns-in-Ok-clause-leaf
returns-in-Ok-clause-leaf c =
    let r = read c.args.table.now c.args.tree.now c.args.key.now c.leaf_for.result.at.0 c.leaf_for.result.next c.block.result.now c.of_body-leaf.result c.requires c.leaf_for.ensures c.block.ensures c.of_body-leaf.ensures in
    (held c.args.table.now c.args.tree.now c.args.key.now c.leaf_for.result.at.0 c.leaf_for.result.next c.of_body-leaf.result c.in-Ok.field-0 r c.in-Ok.ensures.found).leaf

pub returns-in-Ok-clause-found : goal.returns-in-Ok-clause-found
returns-in-Ok-clause-found c =
    let r = read c.args.table.now c.args.tree.now c.args.key.now c.leaf_for.result.at.0 c.leaf_for.result.next c.block.result.now c.of_body-leaf.result c.requires c.leaf_for.ensures c.block.ensures c.of_body-leaf.ensures in
    (held c.args.table.now c.args.tree.now c.args.key.now c.leaf_for.result.at.0 c.leaf_for.result.next c.of_body-leaf.result c.in-Ok.field-0 r c.in-Ok.ensures.found).found

pub returns-in-Ok-clause-exact : goal.returns-in-Ok-clause-exact
returns-in-Ok-clause-exact c =
    let r = read c.args.table.now c.args.tree.now c.args.key.now c.leaf_for.result.at.0 c.leaf_for.result.next c.block.result.now c.of_body-leaf.result c.requires c.leaf_for.ensures c.block.ensures c.of_body-leaf.ensures in
    let h = held c.args.table.now c.args.tree.now c.args.key.now c.leaf_for.result.at.0 c.leaf_for.result.next c.of_body-leaf.result c.in-Ok.field-0 r c.in-Ok.ensures.found in
    (λ _. h.under, λ _. refl)

pub returns-in-Err-clause-exact : goal.returns-in-Err-clause-exact
returns-in-Err-clause-exact c =
    let r = read c.args.table.now c.args.tree.now c.args.key.now c.leaf_for.result.at.0 c.leaf_for.result.next c.block.result.now c.of_body-leaf.result c.requires c.leaf_for.ensures c.block.ensures c.of_body-leaf.ensures in
    let none = get_absent c.args.table.now c.args.tree.now c.args.key.now c.leaf_for.result.at.0 c.leaf_for.result.next c.of_body-leaf.result c.in-Err.field-0 r c.in-Err.ensures.absent in
    (λ wrong. absurd cc, λ some. absurd (none_held (data_under c.args.key.now (tree_items c.args.table.now c.args.tree.now)) none some))
