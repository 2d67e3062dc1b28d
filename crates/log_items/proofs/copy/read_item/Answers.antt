use Rattle.std.proofs.Common.{◌≡◌, ◌∙◌, ℕ, List, [], Some, length, take, sym, ap, arith}
use Rattle.std.specs.Option.{unwrap_or}
use Rattle.tree_range.specs.Between.{data_under, data_view}
use Rattle.tree_range.specs.Shape.{tree_items}
use Rattle.log_items.proofs.Short.{copied_front, under_short}
use Rattle.log_items.proofs.copy.read_item.Goals as goal

pub put_bytes-requires : goal.put_bytes-requires
put_bytes-requires c =
    let there : Some c.in-Some.bytes.now ≡ data_under c.args.key.now (tree_items c.args.table.now c.args.tree.now) = sym (ap data_view c.in-Some.is) ∙ c.get.ensures in
    let short = under_short c.args.key.now c.args.table.now c.args.tree.now c.in-Some.bytes.now (sym there) in
    omega (arith, c.told-into, short)

pub returns-in-Some-clause-short : goal.returns-in-Some-clause-short
returns-in-Some-clause-short c =
    let there : Some c.in-Some.bytes.now ≡ data_under c.args.key.now (tree_items c.args.table.now c.args.tree.now) = sym (ap data_view c.in-Some.is) ∙ c.get.ensures in
    under_short c.args.key.now c.args.table.now c.args.tree.now c.in-Some.bytes.now (sym there)

pub returns-in-Some-clause-front : goal.returns-in-Some-clause-front
returns-in-Some-clause-front c =
    let bytes : List ℕ = c.in-Some.bytes.now in
    let there : Some bytes ≡ data_under c.args.key.now (tree_items c.args.table.now c.args.tree.now) = sym (ap data_view c.in-Some.is) ∙ c.get.ensures in
    let short = under_short c.args.key.now c.args.table.now c.args.tree.now bytes (sym there) in
    ap (take (length bytes)) c.put_bytes.ensures ∙ copied_front c.args.into.now bytes (omega (arith, c.told-into, short)) ∙ ap (λ o. unwrap_or o []) there
