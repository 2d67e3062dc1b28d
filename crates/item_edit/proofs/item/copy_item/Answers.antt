use Rattle.std.proofs.Common.{◌≡◌, ◌∙◌, ℕ, List, length, take, ◌≤◌, Some, sym, ap, subst, arith}
use Rattle.tree_range.specs.Between.{data_under, data_view}
use Rattle.tree_range.specs.Shape.{tree_items}
use Rattle.item_edit.proofs.Changed.{bytes_there}
use Rattle.item_edit.proofs.Front.{copied_front}
use Rattle.item_edit.proofs.item.copy_item.Goals as goal

pub returns-in-Some-clause-front : goal.returns-in-Some-clause-front
returns-in-Some-clause-front c =
    let bytes : List ℕ = c.in-Some.bytes.now in
    let there : Some bytes ≡ data_under c.args.key.now (tree_items c.args.table.now c.args.tree.now) = sym (ap data_view c.in-Some.is) ∙ c.get.ensures in
    let whole = bytes_there c.args.key.now (tree_items c.args.table.now c.args.tree.now) bytes there in
    let short : length bytes ≤ 3970 = subst (λ (l : List ℕ). length l ≤ 3970) (sym whole) c.requires.short in
    ap (take (length bytes)) c.put_bytes.ensures ∙ copied_front c.args.into.now bytes (omega (arith, c.told-into, short)) ∙ whole
