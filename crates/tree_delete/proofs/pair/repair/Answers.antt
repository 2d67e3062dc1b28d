use Rattle.std.proofs.Common.{◌≡◌, ◌+◌, ◌<◌, ◌⊎◌, length, inl, inr, arith}
use Rattle.tree_blocks.specs.Steps.{node_at}
use Rattle.tree_delete.proofs.Pairs.{node_most}
use Rattle.tree_delete.proofs.pair.repair.Goals.{then-place-node_len, else-place-node_len}
use Rattle.tree_delete.proofs.pair.repair.Goals as goal

pub overflow_add-place : goal.overflow_add-place
overflow_add-place c = omega (arith, node_most c.args.table.now c.args.at.0 c.requires.node.body, c.requires.within)

pub even_out-requires-clause-pair : goal.even_out-requires-clause-pair
even_out-requires-clause-pair c =
    let left = c.if-place-node_len.left in
    let near : (left ≡ c.args.place) ⊎ (left + 1 ≡ c.args.place) = elim c.if-place-node_len.branch [
      | then-place-node_len w ↦ inl w.left-is
      | else-place-node_len w ↦ inr (omega (arith, w.left-is, w.if-place-node_len.false, c.node_len.ensures.value, c.requires.least, c.requires.within))
    ] in
    let inside : left + 1 < length (node_at c.args.table.now c.args.at.0) = elim c.if-place-node_len.branch [
      | then-place-node_len w ↦ omega (arith, w.left-is, w.if-place-node_len.true, c.node_len.ensures.value)
      | else-place-node_len w ↦ omega (arith, w.left-is, w.if-place-node_len.false, c.node_len.ensures.value, c.requires.least, c.requires.within)
    ] in
    c.requires.pairs left near inside

pub returns : goal.returns
returns c =
    let left = c.if-place-node_len.left in
    let near : (left ≡ c.args.place) ⊎ (left + 1 ≡ c.args.place) = elim c.if-place-node_len.branch [
      | then-place-node_len w ↦ inl w.left-is
      | else-place-node_len w ↦ inr (omega (arith, w.left-is, w.if-place-node_len.false, c.node_len.ensures.value, c.requires.least, c.requires.within))
    ] in
    let inside : left + 1 < length (node_at c.args.table.now c.args.at.0) = elim c.if-place-node_len.branch [
      | then-place-node_len w ↦ omega (arith, w.left-is, w.if-place-node_len.true, c.node_len.ensures.value)
      | else-place-node_len w ↦ omega (arith, w.left-is, w.if-place-node_len.false, c.node_len.ensures.value, c.requires.least, c.requires.within)
    ] in
    let pair = c.requires.pairs left near inside in
    record { left = left; pair = pair; near = near; even = c.even_out.ensures pair }
