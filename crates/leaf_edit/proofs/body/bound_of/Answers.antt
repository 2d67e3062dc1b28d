use Rattle.std.proofs.Common.{◌≡◌, ◌≤◌, ◌<◌, ◌+◌, ◌-◌, ℕ, List, length, refl, ap, arith, ◌∙◌}
use Rattle.blk_base.specs.Leaf.{Item, item_of, item_offset}
use Rattle.leaf_view.specs.Listed.{items_in}
use Rattle.leaf_edit.specs.Packed.{IsPacked, data_before}
use Rattle.leaf_edit.specs.Amounts.{data_before_none}
use Rattle.leaf_edit.proofs.body.bound_of.Goals as goal

-- the offset of the item before a place
bound_is : (bytes : List ℕ) (items : List Item) (i : ℕ) → IsPacked bytes items → 0 < i → i ≤ length items → item_offset bytes (i - 1) ≡ 3995 - data_before items i
bound_is bytes items i h some within =
    let back : i - 1 + 1 ≡ i = omega arith in
    ap (λ header. header.offset) (h.headers (i - 1) (item_of bytes 0) (omega arith)) ∙ ap (λ n. 3995 - data_before items n) back

pub returns-then-i-eq0-clause-value : goal.returns-then-i-eq0-clause-value
returns-then-i-eq0-clause-value c = rw c.if-i-eq0.true (rw (data_before_none (items_in c.args.block.now)) refl)

pub returns-clause-value : goal.returns-clause-value
returns-clause-value c =
    c.u32_at.ensures ∙ bound_is c.args.block.now (items_in c.args.block.now) c.args.i c.requires.packed (let e = c.if-i-eq0.false in omega arith) (omega (arith, c.requires.packed.count))

pub returns-clause-most : goal.returns-clause-most
returns-clause-most c =
    let is = c.u32_at.ensures ∙ bound_is c.args.block.now (items_in c.args.block.now) c.args.i c.requires.packed (let e = c.if-i-eq0.false in omega arith) (omega (arith, c.requires.packed.count)) in
    omega arith
