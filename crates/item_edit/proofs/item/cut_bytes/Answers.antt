use Rattle.std.proofs.Common.{◌≡◌, ◌≢◌, ◌∙◌, ◌++◌, ℕ, List, length, take, drop, Option, Some, sym, ap, subst, arith, length-take}
use Rattle.tree_range.specs.Shape.{tree_items}
use Rattle.item_edit.specs.ItemEdit.{IsItemEdit, bytes_under, item_bytes}
use Rattle.item_edit.proofs.Inodes.{item_bytes_some}
use Rattle.item_edit.proofs.item.cut_bytes.Goals as goal

pub returns-else-count-eq0 : goal.returns-else-count-eq0
returns-else-count-eq0 c =
    let was : List ℕ = bytes_under c.args.key (tree_items c.args.table.now c.args.tree.now) in
    let left : List ℕ = take c.args.from was ++ drop c.args.to was in
    let count : ℕ = c.copy_around-count.result in
    let whole : List ℕ = c.copy_around-count.new.into in
    let front : take count whole ≡ left = c.copy_around-count.ensures.front in
    let size : length left ≡ count = ap length (sym front) ∙ length-take count whole ∙ omega (arith, c.copy_around-count.ensures.count, c.copy_around-count.array_long, c.requires.order, c.requires.inside, c.requires.short) in
    let some : length left ≢ 0 = λ none. c.if-count-eq0.false (sym size ∙ none) in
    let is : Some (take count whole) ≡ item_bytes left = ap (λ (l : List ℕ). Some l) front ∙ sym (item_bytes_some left some) in
    subst (λ (o : Option (List ℕ)). IsItemEdit c.args.table.now c.write_item.new.table c.args.tree.now c.write_item.new.tree c.args.key o) is c.write_item.ensures
