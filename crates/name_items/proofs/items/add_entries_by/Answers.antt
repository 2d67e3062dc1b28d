use Rattle.std.proofs.Common.{◌++◌, ℕ, List, Some, subst}
use Rattle.blk_base.specs.declared.key.Key.{Key}
use Rattle.tree_range.specs.Shape.{tree_items}
use Rattle.item_edit.specs.ItemEdit.{IsItemEdit, bytes_under}
use Rattle.name_items.specs.Names.{name_of}
use Rattle.name_items.specs.Edits.{AddsEntries}
use Rattle.name_items.proofs.items.add_entries_by.Goals as goal

pub returns : goal.returns
returns c =
    let items = tree_items c.args.table.now c.args.tree.now in
    let made : AddsEntries c.args.table.now c.write_item.new.table c.args.tree.now c.write_item.new.tree (name_of c.args.name.now) c.put_name_entry.new.into = record {
      middle = c.append_bytes.new.table;
      between = c.append_bytes.new.tree;
      hashed = subst (λ (k : Key). IsItemEdit c.args.table.now c.append_bytes.new.table c.args.tree.now c.append_bytes.new.tree k (Some (bytes_under k items ++ c.put_name_entry.new.into))) c.hashed_key.ensures c.append_bytes.ensures;
      indexed = subst (λ (k : Key). IsItemEdit c.append_bytes.new.table c.write_item.new.table c.append_bytes.new.tree c.write_item.new.tree k (Some c.put_name_entry.new.into)) c.indexed_key.ensures c.write_item.ensures;
    } in
    subst (λ (b : List ℕ). AddsEntries c.args.table.now c.write_item.new.table c.args.tree.now c.write_item.new.tree (name_of c.args.name.now) b) c.put_name_entry.ensures made
