use Rattle.std.proofs.Common.{◌≡◌, ◌∙◌, ◌+◌, ◌++◌, ℕ, List, length, take, Some, ap, subst, arith}
use Rattle.tree_range.specs.Shape.{tree_items}
use Rattle.item_edit.specs.ItemEdit.{IsItemEdit, bytes_under}
use Rattle.item_edit.proofs.Front.{written_front}
use Rattle.item_edit.proofs.item.append_bytes.Goals as goal

pub returns : goal.returns
returns c =
    let was : List ℕ = bytes_under c.args.key (tree_items c.args.table.now c.args.tree.now) in
    let count : ℕ = c.copy_item-count.result in
    let end : ℕ = count + length c.args.bytes.now in
    let whole : List ℕ = c.copy_item-count.new.into in
    let made : take end c.put_bytes.new.bytes ≡ take count whole ++ c.args.bytes.now = ap (take end) c.put_bytes.ensures ∙ written_front whole c.args.bytes.now count end (omega (arith, c.copy_item-count.ensures.count, c.copy_item-count.array_long, c.requires.short)) (omega arith) in
    let is : take end c.put_bytes.new.bytes ≡ was ++ c.args.bytes.now = made ∙ ap (λ (l : List ℕ). l ++ c.args.bytes.now) c.copy_item-count.ensures.front in
    subst (λ (l : List ℕ). IsItemEdit c.args.table.now c.write_item.new.table c.args.tree.now c.write_item.new.tree c.args.key (Some l)) is c.write_item.ensures
