use Rattle.std.proofs.Common.{◌∙◌, sym, arith}
use Rattle.tree_range.specs.Shape.{tree_items}
use Rattle.log_edit.proofs.Items.{first_is_there}
use Rattle.log_edit.proofs.Steps.{IsFirstLeft, begins, ends, goes_on, one_less, room_at_end, room_left}
use Rattle.log_edit.proofs.between.delete_items.Goals as goal

pub loop-key-init : goal.loop-key-init
loop-key-init c = begins c.args.first.now c.args.last.now c.args.table.now c.args.tree.now c.requires.tree c.requires.current

pub delete_item-requires-clause-present : goal.delete_item-requires-clause-present
delete_item-requires-clause-present c =
    let here : IsFirstLeft c.args.first.now c.args.last.now c.loop-key.table c.loop-key.tree c.in-Some.key = sym c.first_between.ensures ∙ c.in-Some.is in
    first_is_there c.args.first.now c.args.last.now (tree_items c.loop-key.table c.loop-key.tree) c.in-Some.key here

pub delete_item-requires-clause-room : goal.delete_item-requires-clause-room
delete_item-requires-clause-room c =
    room_left c.args.first.now c.args.last.now c.args.table.now c.args.tree.now c.loop-key.table c.loop-key.tree c.loop-key.invariant c.requires.room

pub loop-key-smaller : goal.loop-key-smaller
loop-key-smaller c =
    let here : IsFirstLeft c.args.first.now c.args.last.now c.loop-key.table c.loop-key.tree c.in-Some.key = sym c.first_between.ensures ∙ c.in-Some.is in
    let less = one_less c.args.first.now c.args.last.now c.in-Some.key c.loop-key.table c.loop-key.tree c.delete_item.new.table c.delete_item.new.tree c.loop-key.invariant.tree here c.delete_item.ensures.items in
    omega (arith, less)

pub loop-key-preserved : goal.loop-key-preserved
loop-key-preserved c =
    let here : IsFirstLeft c.args.first.now c.args.last.now c.loop-key.table c.loop-key.tree c.in-Some.key = sym c.first_between.ensures ∙ c.in-Some.is in
    goes_on c.args.first.now c.args.last.now c.in-Some.key c.args.table.now c.args.tree.now c.loop-key.table c.loop-key.tree c.delete_item.new.table c.delete_item.new.tree c.loop-key.invariant here
    (record {
      tree = c.delete_item.ensures.tree;
      items = c.delete_item.ensures.items;
      owner = c.delete_item.ensures.owner;
      edit = c.delete_item.ensures.edit;
      current = c.delete_item.ensures.current;
      blocks = c.delete_item.ensures.blocks;
      buffers = c.delete_item.ensures.buffers;
      sealed = c.delete_item.ensures.sealed;
    })

pub returns-clause-items : goal.returns-clause-items
returns-clause-items c =
    ends c.args.first.now c.args.last.now c.args.table.now c.args.tree.now c.loop-key.table c.loop-key.tree c.loop-key.invariant (sym c.first_between.ensures ∙ c.in_default.is)

pub returns-clause-room : goal.returns-clause-room
returns-clause-room c =
    room_at_end c.args.first.now c.args.last.now c.args.table.now c.args.tree.now c.loop-key.table c.loop-key.tree c.loop-key.invariant (sym c.first_between.ensures ∙ c.in_default.is)
