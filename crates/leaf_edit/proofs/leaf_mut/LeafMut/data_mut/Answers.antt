use Rattle.std.proofs.Common.{◌+◌, refl, arith, ◌∙◌}
use Rattle.leaf_view.specs.Listed.{items_in}
use Rattle.leaf_edit.specs.Amounts.{data_before_rises}
use Rattle.leaf_edit.proofs.Loans.{same_leaf, bytes_are, stays_packed, data_are}
use Rattle.leaf_edit.proofs.leaf_mut.LeafMut.data_mut.Goals as goal

pub overflow_sub-size : goal.overflow_sub-size
overflow_sub-size c = omega (arith, c.bound_of-start.ensures.value, c.bound_of.ensures.value, data_before_rises (items_in c.args.self.now.block.now) c.args.at (c.args.at + 1) (omega arith))

pub invariant_of-self-lent : goal.invariant_of-self-lent
invariant_of-self-lent c = λ w.
    (stays_packed c.args.self.now.block.now c.args.at c.bound_of.result c.bound_of-start.result c.args.self.now.packed c.requires c.bound_of.ensures.value c.bound_of-start.ensures.value w, tt)

pub returns : goal.returns
returns c =
    let leaf = c.args.self.now in
    let bytes = leaf.block.now in (
      (refl, λ w. same_leaf leaf.block _ _ (bytes_are bytes c.args.at c.bound_of.result c.bound_of-start.result leaf.packed c.requires c.bound_of.ensures.value c.bound_of-start.ensures.value w) _ _),
      record {
        writes_back = tt;
        value = c.part_mut.ensures.value ∙ data_are bytes c.args.at c.bound_of.result c.bound_of-start.result leaf.packed c.requires c.bound_of.ensures.value c.bound_of-start.ensures.value;
      },
    )
