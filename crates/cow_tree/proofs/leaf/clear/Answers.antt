use Rattle.std.proofs.Common.{◌≡◌, ◌∙◌, length, ap, sym, arith, Some, None}
use Rattle.blk_base.specs.Trees.{ItemsRise}
use Rattle.block_table.specs.TreeIn.{block_at}
use Rattle.tree_blocks.specs.Steps.{leaf_at}
use Rattle.tree_blocks.proofs.Orders.{leaf_rise}
use Rattle.cow_tree.proofs.Items.{absent_lower, absent_under, absent_upper, items_rise}
use Rattle.cow_tree.proofs.Leaves.{without_back, without_data, without_front, without_place, without_room}
use Rattle.cow_tree.proofs.leaf.clear.Goals as goal

pub returns-in-Ok-clause-order : goal.returns-in-Ok-clause-order
returns-in-Ok-clause-order c =
    let items = leaf_at c.args.table.now c.args.at.0 in
    let rise : ItemsRise items = items_rise items (leaf_rise (block_at c.args.table.now c.args.at.0).bytes c.requires.leaf.body) in
    without_place items (leaf_at c.leaf_remove.new.table c.args.at.0) c.args.key.now c.in-Ok.place c.leaf_data.result.now rise c.in-Ok.ensures.found c.leaf_data.ensures.listed c.leaf_remove.ensures.items

pub returns-in-Ok-clause-room : goal.returns-in-Ok-clause-room
returns-in-Ok-clause-room c =
    let items = leaf_at c.args.table.now c.args.at.0 in
    let rise : ItemsRise items = items_rise items (leaf_rise (block_at c.args.table.now c.args.at.0).bytes c.requires.leaf.body) in
    omega (arith, c.leaf_room-room.ensures.value, without_room items (leaf_at c.leaf_remove.new.table c.args.at.0) c.args.key.now c.in-Ok.place c.leaf_data.result.now rise c.in-Ok.ensures.found c.leaf_data.ensures.listed c.leaf_remove.ensures.items c.leaf_room-room.ensures.fits)

pub returns-in-Ok-clause-front : goal.returns-in-Ok-clause-front
returns-in-Ok-clause-front c =
    let items = leaf_at c.args.table.now c.args.at.0 in
    let rise : ItemsRise items = items_rise items (leaf_rise (block_at c.args.table.now c.args.at.0).bytes c.requires.leaf.body) in
    without_front items (leaf_at c.leaf_remove.new.table c.args.at.0) c.args.key.now c.in-Ok.place c.leaf_data.result.now rise c.in-Ok.ensures.found c.leaf_data.ensures.listed c.leaf_remove.ensures.items

pub returns-in-Ok-clause-back : goal.returns-in-Ok-clause-back
returns-in-Ok-clause-back c =
    let items = leaf_at c.args.table.now c.args.at.0 in
    let rise : ItemsRise items = items_rise items (leaf_rise (block_at c.args.table.now c.args.at.0).bytes c.requires.leaf.body) in
    without_back items (leaf_at c.leaf_remove.new.table c.args.at.0) c.args.key.now c.in-Ok.place c.leaf_data.result.now rise c.in-Ok.ensures.found c.leaf_data.ensures.listed c.leaf_remove.ensures.items

pub returns-in-Ok-clause-frees : goal.returns-in-Ok-clause-frees
returns-in-Ok-clause-frees c =
    let items = leaf_at c.args.table.now c.args.at.0 in
    let rise : ItemsRise items = items_rise items (leaf_rise (block_at c.args.table.now c.args.at.0).bytes c.requires.leaf.body) in
    λ was under. omega (arith, ap length (without_data items (leaf_at c.leaf_remove.new.table c.args.at.0) c.args.key.now c.in-Ok.place c.leaf_data.result.now rise c.in-Ok.ensures.found c.leaf_data.ensures.listed c.leaf_remove.ensures.items was under))

pub returns-in-Err-clause-front : goal.returns-in-Err-clause-front
returns-in-Err-clause-front c = sym (absent_lower (leaf_at c.args.table.now c.args.at.0) c.args.key.now c.in-Err.place c.in-Err.ensures.absent)

pub returns-in-Err-clause-back : goal.returns-in-Err-clause-back
returns-in-Err-clause-back c = sym (absent_upper (leaf_at c.args.table.now c.args.at.0) c.args.key.now c.in-Err.place c.in-Err.ensures.absent)

pub returns-in-Err-clause-frees : goal.returns-in-Err-clause-frees
returns-in-Err-clause-frees c = λ was under.
    let none = absent_under (leaf_at c.args.table.now c.args.at.0) c.args.key.now c.in-Err.place c.in-Err.ensures.absent in
    let wrong : Some was ≡ None = sym under ∙ none in absurd cc
