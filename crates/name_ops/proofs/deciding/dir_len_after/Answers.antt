use Rattle.std.proofs.Common.{arith}
use Rattle.flat_model.specs.Lengths.{dir_item_length, entry_length}
use Rattle.flat_model.specs.Names.{is_hashed_in}
use Rattle.name_ops.specs.Changes.{names_told}
use Rattle.name_ops.proofs.Totals.{total_after, total_gone}
use Rattle.name_ops.proofs.deciding.dir_len_after.Goals as goal

pub overflow_sub-left : goal.overflow_sub-left
unfolding dir_item_length
overflow_sub-left c =
    let given = c.requires.given in
    let long = c.dir_item_len.ensures given.0 given.1 in
    let left = total_gone entry_length (is_hashed_in c.args.dir c.args.hash) (names_told c.args.gone.now) given.0.names given.1.coherent.in_order given.2.there in
    let gone = c.hashed_sum.ensures.sum in
    omega arith

pub returns : goal.returns
unfolding dir_item_length
returns c = λ sub given change.
    let long = c.dir_item_len.ensures sub given in
    let left = total_gone entry_length (is_hashed_in c.args.dir c.args.hash) (names_told c.args.gone.now) sub.names given.coherent.in_order change.there in
    let after = total_after entry_length (is_hashed_in c.args.dir c.args.hash) sub.names (names_told c.args.gone.now) (names_told c.args.made.now) given.coherent.in_order change.there change.new in
    let gone = c.hashed_sum.ensures.sum in
    let made = c.hashed_sum-2.ensures.sum in
    omega arith
