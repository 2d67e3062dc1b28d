use Rattle.std.proofs.Common.{◌≡◌, ◌+◌, ◌-◌, ◌<◌, ◌≤◌, ℕ, length, sym, subst, arith}
use Rattle.leaf_view.specs.Search.{IsPlace, pointer_keys}
use Rattle.tree_blocks.specs.Steps.{node_at}
use Rattle.tree_delete.proofs.Pairs.{moved_left, moved_right, own_rise, shared_one, to_left_place, to_right_place}
use Rattle.tree_delete.proofs.pair.share.Goals as goal

pub returns-then-left_len-right_len-le-MOST_POINTERS : goal.returns-then-left_len-right_len-le-MOST_POINTERS
returns-then-left_len-right_len-le-MOST_POINTERS c =
    shared_one c.args.table.now c.own_both.new.table c.node_join.new.table c.args.left.0 c.args.right.0 c.own_both.result.0.0 c.own_both.result.1.0 c.requires.pair c.own_both.ensures c.node_join.ensures.pointers c.node_join.ensures.node c.node_join.ensures.kept c.node_join.ensures.let_go c.node_join.ensures.others c.node_join.ensures.spare c.node_join.ensures.free

pub move_pointer-requires-clause-order : goal.move_pointer-requires-clause-order
move_pointer-requires-clause-order c = λ pointer h.
    let mid = c.own_both.new.table in
    let left = c.own_both.result.0.0 in
    let right = c.own_both.result.1.0 in
    let rise = own_rise c.args.table.now mid c.args.left.0 c.args.right.0 left right c.requires.pair c.own_both.ensures in
    subst (λ (n : ℕ). IsPlace (pointer_keys (node_at mid left)) pointer.key n) (sym c.node_len-left_len.ensures.value) (to_left_place (node_at mid left) (node_at mid right) pointer rise h)

pub move_pointer-requires-else-left_len-right_len-clause-order : goal.move_pointer-requires-else-left_len-right_len-clause-order
move_pointer-requires-else-left_len-right_len-clause-order c = λ pointer h.
    let mid = c.own_both.new.table in
    let left = c.own_both.result.0.0 in
    let right = c.own_both.result.1.0 in
    let rise = own_rise c.args.table.now mid c.args.left.0 c.args.right.0 left right c.requires.pair c.own_both.ensures in
    let last : c.node_len-left_len.result - 1 + 1 ≡ length (node_at mid left) = omega (arith, c.node_len-left_len.ensures.value, c.node_len-left_len.ensures.least) in
    to_right_place (node_at mid left) (node_at mid right) pointer (c.node_len-left_len.result - 1) rise h last

pub returns-then-left_len-right_len : goal.returns-then-left_len-right_len
returns-then-left_len-right_len c =
    let mid = c.own_both.new.table in
    let left = c.own_both.result.0.0 in
    let right = c.own_both.result.1.0 in
    let shorter : length (node_at mid left) < length (node_at mid right) = omega (arith, c.node_len-left_len.ensures.value, c.node_len-right_len.ensures.value, c.if-left_len-right_len.true) in
    let many : 121 < length (node_at mid left) + length (node_at mid right) = omega (arith, c.node_len-left_len.ensures.value, c.node_len-right_len.ensures.value, c.if-left_len-right_len-le-MOST_POINTERS.false) in
    moved_left c.args.table.now mid c.move_pointer.new.table c.args.left.0 c.args.right.0 left right c.node_len-left_len.result c.requires.pair c.own_both.ensures c.node_len-left_len.ensures.value shorter many c.move_pointer.ensures.pair c.move_pointer.ensures.from c.move_pointer.ensures.to c.move_pointer.ensures.edit c.move_pointer.ensures.spare c.move_pointer.ensures.free

pub returns-else-left_len-right_len : goal.returns-else-left_len-right_len
returns-else-left_len-right_len c =
    let mid = c.own_both.new.table in
    let left = c.own_both.result.0.0 in
    let right = c.own_both.result.1.0 in
    let last : c.node_len-left_len.result - 1 + 1 ≡ length (node_at mid left) = omega (arith, c.node_len-left_len.ensures.value, c.node_len-left_len.ensures.least) in
    let longer : length (node_at mid right) ≤ length (node_at mid left) = omega (arith, c.node_len-left_len.ensures.value, c.node_len-right_len.ensures.value, c.if-left_len-right_len.false) in
    let many : 121 < length (node_at mid left) + length (node_at mid right) = omega (arith, c.node_len-left_len.ensures.value, c.node_len-right_len.ensures.value, c.if-left_len-right_len-le-MOST_POINTERS.false) in
    moved_right c.args.table.now mid c.move_pointer-else-left_len-right_len.new.table c.args.left.0 c.args.right.0 left right (c.node_len-left_len.result - 1) c.requires.pair c.own_both.ensures last longer many c.move_pointer-else-left_len-right_len.ensures.pair c.move_pointer-else-left_len-right_len.ensures.from c.move_pointer-else-left_len-right_len.ensures.to c.move_pointer-else-left_len-right_len.ensures.edit c.move_pointer-else-left_len-right_len.ensures.spare c.move_pointer-else-left_len-right_len.ensures.free
