use Rattle.std.proofs.Common.{◌&&◌, Bool, not, nat_eq, arith}
use Rattle.blk_base.specs.Crc.{extref_hash_of}
use Rattle.flat_model.specs.Lengths.{extref_item_length, extref_length}
use Rattle.flat_model.specs.Names.{FlatName}
use Rattle.name_ops.specs.Changes.{names_told}
use Rattle.name_ops.proofs.Totals.{total_after, total_gone}
use Rattle.name_ops.proofs.deciding.extref_len_after.Goals as goal

pub overflow_sub-left : goal.overflow_sub-left
unfolding extref_item_length
overflow_sub-left c =
    let given = c.requires.given in
    let test : FlatName → Bool = λ name. not name.near && (nat_eq name.ino c.args.ino && nat_eq (extref_hash_of name.dir name.bytes) c.args.hash) in
    let long = c.extref_item_len.ensures given.0 given.1 in
    let left = total_gone extref_length test (names_told c.args.gone.now) given.0.names given.1.coherent.in_order given.2.there in
    let gone = c.far_sum.ensures.sum in
    omega arith

pub returns : goal.returns
unfolding extref_item_length
returns c = λ sub given change.
    let test : FlatName → Bool = λ name. not name.near && (nat_eq name.ino c.args.ino && nat_eq (extref_hash_of name.dir name.bytes) c.args.hash) in
    let long = c.extref_item_len.ensures sub given in
    let left = total_gone extref_length test (names_told c.args.gone.now) sub.names given.coherent.in_order change.there in
    let after = total_after extref_length test sub.names (names_told c.args.gone.now) (names_told c.args.made.now) given.coherent.in_order change.there change.new in
    let gone = c.far_sum.ensures.sum in
    let made = c.far_sum-2.ensures.sum in
    omega arith
