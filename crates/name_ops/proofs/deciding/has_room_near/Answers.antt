use Rattle.std.proofs.Common.{◌≡◌, ◌+◌, ◌-◌, ◌&&◌, ℕ, Bool, nat_eq, nat_le, length, ap, arith}
use Rattle.flat_model.specs.Lengths.{ref_item_length, ref_length}
use Rattle.flat_model.specs.Names.{FlatName}
use Rattle.name_ops.specs.Changes.{names_told, remove_names}
use Rattle.name_items.specs.Names.{name_of}
use Rattle.name_ops.proofs.Totals.{total_gone}
use Rattle.name_ops.proofs.deciding.has_room_near.Goals as goal

pub overflow_sub-left : goal.overflow_sub-left
unfolding ref_item_length
overflow_sub-left c =
    let given = c.requires.given in
    let test : FlatName → Bool = λ name. name.near && (nat_eq name.ino c.args.name.now.ino.0 && nat_eq name.dir c.args.name.now.dir.0) in
    let long = c.ref_item_len.ensures given.0 given.1 c.requires.not_root in
    let left = total_gone ref_length test (names_told c.args.gone.now) given.0.names given.1.coherent.in_order given.2.there in
    let gone = c.near_sum.ensures.sum in
    omega arith

pub returns : goal.returns
unfolding ref_item_length
returns c = λ sub given change.
    let test : FlatName → Bool = λ name. name.near && (nat_eq name.ino c.args.name.now.ino.0 && nat_eq name.dir c.args.name.now.dir.0) in
    let long = c.ref_item_len.ensures sub given c.requires.not_root in
    let left = total_gone ref_length test (names_told c.args.gone.now) sub.names given.coherent.in_order change.there in
    let gone = c.near_sum.ensures.sum in
    let same : c.ref_item_len.result - c.near_sum.result + (10 + length c.args.name.now.bytes.now) ≡ ref_item_length (remove_names sub.names (names_told c.args.gone.now)) c.args.name.now.ino.0 c.args.name.now.dir.0 + ref_length (name_of c.args.name.now) = omega arith in
    ap (λ (n : ℕ). nat_le n 2000) same
