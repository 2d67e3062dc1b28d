use Rattle.std.proofs.Common.{◌++◌, ℕ, List, Some, subst, ◌≡◌}
use Rattle.blk_base.specs.declared.key.Key.{Key}
use Rattle.tree_range.specs.Shape.{tree_items}
use Rattle.item_edit.specs.ItemEdit.{IsItemEdit, bytes_under}
use Rattle.name_items.specs.Names.{name_of, ref_key as key_of_ref}
use Rattle.name_items.proofs.items.add_far.Goals as goal

pub returns : goal.returns
returns c =
    let made : (key : Key) → c.ref_key.result ≡ key → IsItemEdit c.args.table.now c.append_bytes.new.table c.args.tree.now c.append_bytes.new.tree key (Some (bytes_under key (tree_items c.args.table.now c.args.tree.now) ++ c.put_extref.new.into)) = λ key is. subst (λ (k : Key). IsItemEdit c.args.table.now c.append_bytes.new.table c.args.tree.now c.append_bytes.new.tree k (Some (bytes_under k (tree_items c.args.table.now c.args.tree.now) ++ c.put_extref.new.into))) is c.append_bytes.ensures in
    let key : Key = key_of_ref (name_of c.args.name.now) in
    subst (λ (b : List ℕ). IsItemEdit c.args.table.now c.append_bytes.new.table c.args.tree.now c.append_bytes.new.tree key (Some (bytes_under key (tree_items c.args.table.now c.args.tree.now) ++ b))) c.put_extref.ensures (made key c.ref_key.ensures)
