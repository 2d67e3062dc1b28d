use Rattle.std.proofs.Common.{◌-◌, ℕ, slice_get, sym, ap, ◌∙◌, arith}
use Rattle.leaf_view.specs.Search.{keys_of}
use Rattle.tree_range.proofs.Parts.{leaf_part_ends, leaf_part_from}
use Rattle.tree_range.proofs.check.is_leaf_part.Goals as goal

pub returns-then-is_first : goal.returns-then-is_first
returns-then-is_first c =
    let bytes = c.args.block.now in
    let leaf = c.of_body-leaf.result in
    let last_is = ap (λ (n : ℕ). slice_get (keys_of leaf) (n - 1)) (sym c.len-count.ensures.value) ∙ c.key-then-is_first.ensures in
    (λ holds. leaf_part_from bytes leaf c.args.first c.args.next c.key.result c.key-then-is_first.result c.of_body-leaf.ensures (omega (arith, c.len-count.ensures.value)) c.key.ensures last_is (c.is_first.ensures.0 c.if-is_first.true) (c.is_before.ensures.0 holds), λ h. c.is_before.ensures.1 (λ bound e. leaf_part_ends bytes leaf c.args.first c.args.next (c.len-count.result - 1) c.key-then-is_first.result bound c.of_body-leaf.ensures c.key-then-is_first.ensures h e))
