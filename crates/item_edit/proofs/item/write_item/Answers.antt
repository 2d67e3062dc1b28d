use Rattle.item_edit.proofs.Changed.{IsStep, put_done}
use Rattle.item_edit.proofs.item.write_item.Goals as goal

pub returns-then-is_some : goal.returns-then-is_some
returns-then-is_some c =
    let step : IsStep c.args.table.now c.replace.new.table c.args.tree.now c.replace.new.tree = record {
      tree = c.replace.ensures.tree;
      owner = c.replace.ensures.owner;
      edit = c.replace.ensures.edit;
      current = c.replace.ensures.current;
      sealed = c.replace.ensures.sealed;
      taken = c.replace.ensures.blocks;
    } in
    put_done c.args.table.now c.replace.new.table c.args.tree.now c.replace.new.tree c.args.key c.args.bytes.now step c.replace.ensures.items

pub returns-else-is_some : goal.returns-else-is_some
returns-else-is_some c =
    let step : IsStep c.args.table.now c.put.new.table c.args.tree.now c.put.new.tree = record {
      tree = c.put.ensures.tree;
      owner = c.put.ensures.owner;
      edit = c.put.ensures.edit;
      current = c.put.ensures.current;
      sealed = c.put.ensures.sealed;
      taken = c.put.ensures.blocks;
    } in
    put_done c.args.table.now c.put.new.table c.args.tree.now c.put.new.tree c.args.key c.args.bytes.now step c.put.ensures.items
