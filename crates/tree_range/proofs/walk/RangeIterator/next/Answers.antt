use Rattle.std.proofs.Common.{arith, ap, length, ◌≡◌, ◌∙◌, sym, true, false, []}
use Rattle.blk_base.specs.Keys.{key_below}
use Rattle.tree_range.proofs.Looked.{leaf_is, most_of}
use Rattle.tree_range.proofs.Walked.{ends_at, further_at, goes_on}
use Rattle.tree_range.proofs.walk.RangeIterator.next.Goals as goal

pub key-key-requires : goal.key-key-requires
key-key-requires c =
    let same = ap length (leaf_is c.self.inside.table.now c.in_ok-spot.spot.leaf.0 c.block.result.now c.of_body-leaf.result c.block.ensures c.of_body-leaf.ensures) in
    omega (arith, same, c.in_ok-spot.ensures.holds)

pub data-requires : goal.data-requires
data-requires c =
    let same = ap length (leaf_is c.self.inside.table.now c.in_ok-spot.spot.leaf.0 c.block.result.now c.of_body-leaf.result c.block.ensures c.of_body-leaf.ensures) in
    omega (arith, same, c.in_ok-spot.ensures.holds)

pub overflow_add-self : goal.overflow_add-self
overflow_add-self c =
    let same = ap length (leaf_is c.self.inside.table.now c.in_ok-spot.spot.leaf.0 c.block.result.now c.of_body-leaf.result c.block.ensures c.of_body-leaf.ensures) in
    omega (arith, same, c.in_ok-spot.ensures.holds, most_of c.block.result.now c.of_body-leaf.result c.of_body-leaf.ensures)

pub invariant_of-self : goal.invariant_of-self
invariant_of-self c =
    let leaf = leaf_is c.self.inside.table.now c.in_ok-spot.spot.leaf.0 c.block.result.now c.of_body-leaf.result c.block.ensures c.of_body-leaf.ensures in
    (c.self.invariant.0, further_at c.self.inside.table.now c.self.inside.tree c.in_ok-spot.spot c.of_body-leaf.result c.key-key.result c.data.result.now leaf c.in_ok-spot.ensures.is c.key-key.ensures c.data.ensures)

pub returns-then-is_above-clause-steps : goal.returns-then-is_above-clause-steps
returns-then-is_above-clause-steps c =
    let leaf = leaf_is c.self.inside.table.now c.in_ok-spot.spot.leaf.0 c.block.result.now c.of_body-leaf.result c.block.ensures c.of_body-leaf.ensures in
    let above : key_below c.self.inside.last c.key-key.result ≡ true = sym (sym c.if-is_above.true ∙ c.is_above.ensures) in
    let none : c.args.self.now ≡ [] = sym c.self.view_is ∙ ends_at c.self.inside.table.now c.self.inside.tree c.self.inside.spot c.in_ok-spot.spot c.of_body-leaf.result c.self.inside.last c.key-key.result leaf c.self.invariant.0 c.in_ok-spot.ensures c.key-key.ensures above in
    (none, none)

pub returns-clause-steps : goal.returns-clause-steps
returns-clause-steps c =
    let leaf = leaf_is c.self.inside.table.now c.in_ok-spot.spot.leaf.0 c.block.result.now c.of_body-leaf.result c.block.ensures c.of_body-leaf.ensures in
    let low : key_below c.self.inside.last c.key-key.result ≡ false = sym (sym c.if-is_above.false ∙ c.is_above.ensures) in
    sym c.self.view_is ∙ goes_on c.self.inside.table.now c.self.inside.tree c.self.inside.spot c.in_ok-spot.spot c.of_body-leaf.result c.self.inside.last c.key-key.result c.data.result.now leaf c.self.invariant.0 c.in_ok-spot.ensures c.key-key.ensures c.data.ensures low

pub returns-clause-goes : goal.returns-clause-goes
returns-clause-goes c =
    let leaf = leaf_is c.self.inside.table.now c.in_ok-spot.spot.leaf.0 c.block.result.now c.of_body-leaf.result c.block.ensures c.of_body-leaf.ensures in
    let low : key_below c.self.inside.last c.key-key.result ≡ false = sym (sym c.if-is_above.false ∙ c.is_above.ensures) in
    let first = sym c.self.view_is ∙ goes_on c.self.inside.table.now c.self.inside.tree c.self.inside.spot c.in_ok-spot.spot c.of_body-leaf.result c.self.inside.last c.key-key.result c.data.result.now leaf c.self.invariant.0 c.in_ok-spot.ensures c.key-key.ensures c.data.ensures low in
    let fewer = ap length first in
    record { on = λ _. (tt, tt, omega arith); keeps = tt; rests = λ _. tt }
