use Rattle.std.proofs.Common.{◌≡◌, ◌-◌, ℕ, List, arith, ap, ◌∙◌, length}
use Rattle.blk_base.specs.Leaf.{Item, count_of, data_of}
use Rattle.leaf_view.specs.Listed.{items_in}
use Rattle.leaf_edit.specs.Packed.{IsPacked, data_before}
use Rattle.leaf_edit.specs.Amounts.{data_before_all}
use Rattle.leaf_edit.proofs.whole.room.Goals as goal

-- the lowest data
low_is : (bytes : List ℕ) (items : List Item) (count low : ℕ) → IsPacked bytes items → count ≡ count_of bytes → low ≡ 3995 - data_before items count → low ≡ 3995 - data_of items
low_is bytes items count low h is value = value ∙ ap (λ n. 3995 - n) (data_before_all items count (let c = h.count in omega arith))

pub overflow_sub-result : goal.overflow_sub-result
overflow_sub-result c =
    let items = items_in c.args.block.now in
    let low = low_is c.args.block.now items c.count_of-count.result c.bound_of.result c.requires c.count_of-count.ensures c.bound_of.ensures.value in
    omega arith

pub returns : goal.returns
returns c =
    let items = items_in c.args.block.now in
    let counts : c.count_of-count.result ≡ length items = c.count_of-count.ensures ∙ c.requires.count in
    let low = low_is c.args.block.now items c.count_of-count.result c.bound_of.result c.requires c.count_of-count.ensures c.bound_of.ensures.value in
    omega arith
