use Rattle.item_edit.proofs.Changed.{IsStep, gone_done}
use Rattle.item_edit.proofs.item.remove_item.Goals as goal

pub returns : goal.returns
returns c =
    let step : IsStep c.args.table.now c.delete.new.table c.args.tree.now c.delete.new.tree = record {
      tree = c.delete.ensures.tree;
      owner = c.delete.ensures.owner;
      edit = c.delete.ensures.edit;
      current = c.delete.ensures.current;
      sealed = c.delete.ensures.sealed;
      taken = c.delete.ensures.blocks;
    } in
    gone_done c.args.table.now c.delete.new.table c.args.tree.now c.delete.new.tree c.args.key step c.delete.ensures.items
