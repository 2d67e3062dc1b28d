use Rattle.std.proofs.Common.{◌≡◌, ◌∙◌, ◌+◌, ◌-◌, ◌++◌, ℕ, List, length, take, drop, ◌≤◌, Some, sym, ap, subst, arith, length-take, length-drop}
use Rattle.blk_base.specs.Bytes.{with_bytes}
use Rattle.tree_range.specs.Between.{data_under, data_view}
use Rattle.tree_range.specs.Shape.{tree_items}
use Rattle.item_edit.proofs.Changed.{bytes_there}
use Rattle.item_edit.proofs.Front.{joined_front, take_rest}
use Rattle.item_edit.proofs.item.copy_around.Goals as goal

pub returns-clause-front : goal.returns-clause-front
returns-clause-front c =
    let bytes : List ℕ = c.in-Some.bytes.now in
    let there : Some bytes ≡ data_under c.args.key.now (tree_items c.args.table.now c.args.tree.now) = sym (ap data_view c.in-Some.is) ∙ c.get.ensures in
    let whole = bytes_there c.args.key.now (tree_items c.args.table.now c.args.tree.now) bytes there in
    let from : ℕ = c.args.from in
    let to : ℕ = c.args.to in
    let first : List ℕ = take from bytes in
    let second : List ℕ = drop to bytes in
    let end : ℕ = from + (length bytes - to) in
    let inside : to ≤ length bytes = subst (λ (l : List ℕ). to ≤ length l) (sym whole) c.requires.inside in
    let short : length bytes ≤ 3970 = subst (λ (l : List ℕ). length l ≤ 3970) (sym whole) c.requires.short in
    let made : c.put_bytes-in-Some.new.bytes ≡ with_bytes (with_bytes c.args.into.now 0 first) from second = c.put_bytes-in-Some.ensures ∙ ap (λ (l : List ℕ). with_bytes c.put_bytes.new.bytes from l) (take_rest to bytes) ∙ ap (λ (l : List ℕ). with_bytes l from second) c.put_bytes.ensures in
    let size : length first ≡ from = length-take from bytes ∙ omega (arith, c.requires.order, inside) in
    let rest : length second ≡ length bytes - to = length-drop to bytes in
    ap (take end) made ∙ joined_front c.args.into.now first second from end size (omega (arith, rest, c.told-into, inside, short, c.requires.order)) (omega (arith, rest)) ∙ ap (λ (l : List ℕ). take from l ++ drop to l) whole
