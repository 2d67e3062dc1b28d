use Rattle.std.proofs.Common.{◌≡◌, ◌-◌, ℕ, List, sym, subst, ◌∙◌, refl, arith, below_more}
use Rattle.tree_range.specs.Part.{IsChildPart, IsLeafPart, IsPart}
use Rattle.tree_range.proofs.Parts.{child_part, child_part_above, leaf_from_part, node_part_above, part_above, part_from_leaf, part_of_child}
use Rattle.tree_range.proofs.check.+is_part.Goals as goal

pub returns-then-level-eq0 : goal.returns-then-level-eq0
returns-then-level-eq0 t c =
    let table = c.args.table.now in
    let level : c.args.level ≡ 0 = omega (arith, c.if-level-eq0.true) in
    (λ holds. subst (λ (n : ℕ). IsPart n table c.args.at.0 c.args.first c.args.next) (sym level) (part_from_leaf table c.args.at.0 c.args.first c.args.next (c.is_taken.ensures.0 c.if-not-is_taken.false) (subst (λ (b : List ℕ). IsLeafPart b c.args.first c.args.next) c.block-block.ensures (c.is_leaf_part.ensures.0 holds))), λ h. c.is_leaf_part.ensures.1 (subst (λ (b : List ℕ). IsLeafPart b c.args.first c.args.next) (sym c.block-block.ensures) (leaf_from_part table c.args.at.0 c.args.first c.args.next (subst (λ (n : ℕ). IsPart n table c.args.at.0 c.args.first c.args.next) level h))))

pub returns-then-not-is_node_part : goal.returns-then-not-is_node_part
returns-then-not-is_node_part t c =
    (λ wrong. absurd cc, λ h. sym c.if-not-is_node_part.true ∙ c.is_node_part.ensures.1 (node_part_above c.args.level c.args.table.now c.args.at.0 c.args.first c.args.next c.block-block.result.now (omega (arith, c.if-level-eq0.false)) c.block-block.ensures h))

pub returns-then-not-is_part : goal.returns-then-not-is_part
returns-then-not-is_part t c =
    (λ wrong. absurd cc, λ h. sym c.if-not-is_part.true ∙ c.is_part.ensures.1 (part_of_child (c.args.level - 1) c.args.table.now c.of_body-node.result c.args.next c.loop-place.place c.child.result.0.0 c.child.result.1 c.key.result c.key_after-behind.result c.child.ensures c.key.ensures c.key_after-behind.ensures (child_part_above c.args.level c.args.table.now c.args.at.0 c.args.first c.args.next c.block-block.result.now c.of_body-node.result c.loop-place.place (omega (arith, c.if-level-eq0.false)) c.block-block.ensures c.of_body-node.ensures h)))

pub loop-place-preserved : goal.loop-place-preserved
loop-place-preserved t c =
    below_more (IsChildPart (c.args.level - 1) c.args.table.now c.of_body-node.result c.args.next) c.loop-place.place c.loop-place.invariant (child_part (c.args.level - 1) c.args.table.now c.of_body-node.result c.args.next c.loop-place.place c.child.result.0.0 c.child.result.1 c.key.result c.key_after-behind.result c.child.ensures c.key.ensures c.key_after-behind.ensures (c.is_part.ensures.0 c.if-not-is_part.false))

pub returns : goal.returns
returns t c =
    (λ _. part_above c.args.level c.args.table.now c.args.at.0 c.args.first c.args.next c.block-block.result.now c.of_body-node.result (omega (arith, c.if-level-eq0.false)) c.block-block.ensures c.of_body-node.ensures (c.is_taken.ensures.0 c.if-not-is_taken.false) (c.is_node_part.ensures.0 c.if-not-is_node_part.false) (λ place inside. c.loop-place.invariant place (omega (arith, c.len-place-end.ensures.value, inside))), λ _. refl)
