use Rattle.std.proofs.Common.{◌≡◌, ◌<◌, ◌-◌, ◌^◌, ℕ, suc, false, sym, subst, arith}
use Rattle.tree_range.specs.Shape.{IsSubtree}
use Rattle.tree_seal.proofs.Walk.{one_up}
use Rattle.volume_seal.proofs.DataParts.{node_of}
use Rattle.volume_seal.proofs.Counted.{child_count, child_shaped, leaf_of_shape, node_count, node_end_count, one_count}
use Rattle.volume_seal.proofs.count.+count_below.Goals as goal

pub count_leaf_data-requires-clause-leaf : goal.count_leaf_data-requires-clause-leaf
count_leaf_data-requires-clause-leaf t c =
    leaf_of_shape c.args.level c.args.table.now c.requires.shape.0 c.args.at.0 c.if-level-eq0.true c.requires.shape.1

pub node_len-place-end-requires-clause-node : goal.node_len-place-end-requires-clause-node
node_len-place-end-requires-clause-node t c =
    let level : ℕ = c.args.level in
    let e : suc (level - 1) ≡ level = one_up level c.if-level-eq0.false in
    let shape : IsSubtree (suc (level - 1)) c.args.table.now c.requires.shape.0 c.args.at.0 = subst (λ (n : ℕ). IsSubtree n c.args.table.now c.requires.shape.0 c.args.at.0) (sym e) c.requires.shape.1 in
    node_of (level - 1) c.args.table.now c.requires.shape.0 c.args.at.0 shape

pub node_child-requires-clause-node : goal.node_child-requires-clause-node
node_child-requires-clause-node t c =
    let level : ℕ = c.args.level in
    let e : suc (level - 1) ≡ level = one_up level c.if-level-eq0.false in
    let shape : IsSubtree (suc (level - 1)) c.args.table.now c.requires.shape.0 c.args.at.0 = subst (λ (n : ℕ). IsSubtree n c.args.table.now c.requires.shape.0 c.args.at.0) (sym e) c.requires.shape.1 in
    node_of (level - 1) c.args.table.now c.requires.shape.0 c.args.at.0 shape

pub count_below-count-requires : goal.count_below-count-requires
count_below-count-requires t c =
    let level : ℕ = c.args.level in
    let e : suc (level - 1) ≡ level = one_up level c.if-level-eq0.false in
    let shape : IsSubtree (suc (level - 1)) c.args.table.now c.requires.shape.0 c.args.at.0 = subst (λ (n : ℕ). IsSubtree n c.args.table.now c.requires.shape.0 c.args.at.0) (sym e) c.requires.shape.1 in
    let few : one_count (suc (level - 1)) c.args.table.now c.args.at.0 < 2 ^ 32 = subst (λ (n : ℕ). one_count n c.args.table.now c.args.at.0 < 2 ^ 32) (sym e) c.requires.few in
    let all = node_count (level - 1) c.args.table.now c.args.at.0 in
    let before = c.loop-place.invariant in
    let next = child_count (level - 1) c.args.table.now c.args.at.0 c.loop-place.place c.requires.shape.0 shape c.node_child.result.0.0 c.node_child.result.1 c.node_child.ensures in (
      omega (arith, e, c.decreases),
      (
        (false, child_shaped (level - 1) c.args.table.now c.args.at.0 c.loop-place.place c.requires.shape.0 shape c.node_child.result.0.0 c.node_child.result.1 c.node_child.ensures),
        omega (arith, few, all, before, next),
      ),
    )

pub overflow_add-count : goal.overflow_add-count
overflow_add-count t c =
    let level : ℕ = c.args.level in
    let e : suc (level - 1) ≡ level = one_up level c.if-level-eq0.false in
    let shape : IsSubtree (suc (level - 1)) c.args.table.now c.requires.shape.0 c.args.at.0 = subst (λ (n : ℕ). IsSubtree n c.args.table.now c.requires.shape.0 c.args.at.0) (sym e) c.requires.shape.1 in
    let few : one_count (suc (level - 1)) c.args.table.now c.args.at.0 < 2 ^ 32 = subst (λ (n : ℕ). one_count n c.args.table.now c.args.at.0 < 2 ^ 32) (sym e) c.requires.few in
    let all = node_count (level - 1) c.args.table.now c.args.at.0 in
    let before = c.loop-place.invariant in
    let next = child_count (level - 1) c.args.table.now c.args.at.0 c.loop-place.place c.requires.shape.0 shape c.node_child.result.0.0 c.node_child.result.1 c.node_child.ensures in
    let result = c.count_below-count.ensures in
    omega (arith, few, all, before, next, result)

pub loop-place-preserved : goal.loop-place-preserved
loop-place-preserved t c =
    let level : ℕ = c.args.level in
    let e : suc (level - 1) ≡ level = one_up level c.if-level-eq0.false in
    let shape : IsSubtree (suc (level - 1)) c.args.table.now c.requires.shape.0 c.args.at.0 = subst (λ (n : ℕ). IsSubtree n c.args.table.now c.requires.shape.0 c.args.at.0) (sym e) c.requires.shape.1 in
    let few : one_count (suc (level - 1)) c.args.table.now c.args.at.0 < 2 ^ 32 = subst (λ (n : ℕ). one_count n c.args.table.now c.args.at.0 < 2 ^ 32) (sym e) c.requires.few in
    let all = node_count (level - 1) c.args.table.now c.args.at.0 in
    let before = c.loop-place.invariant in
    let next = child_count (level - 1) c.args.table.now c.args.at.0 c.loop-place.place c.requires.shape.0 shape c.node_child.result.0.0 c.node_child.result.1 c.node_child.ensures in
    let result = c.count_below-count.ensures in
    omega (arith, before, next, result)

pub returns : goal.returns
returns t c =
    let level : ℕ = c.args.level in
    let e : suc (level - 1) ≡ level = one_up level c.if-level-eq0.false in
    let shape : IsSubtree (suc (level - 1)) c.args.table.now c.requires.shape.0 c.args.at.0 = subst (λ (n : ℕ). IsSubtree n c.args.table.now c.requires.shape.0 c.args.at.0) (sym e) c.requires.shape.1 in
    let all = node_count (level - 1) c.args.table.now c.args.at.0 in
    let before = c.loop-place.invariant in
    let end = node_end_count (level - 1) c.args.table.now c.args.at.0 c.loop-place.place c.node_len-place-end.result c.node_len-place-end.ensures.value c.loop-place-test.false in
    let here : c.loop-place.count ≡ one_count (suc (level - 1)) c.args.table.now c.args.at.0 = omega (arith, all, before, end) in
    subst (λ (n : ℕ). c.loop-place.count ≡ one_count n c.args.table.now c.args.at.0) e here
