use Rattle.std.proofs.Common.{◌≤◌, ◌-◌, false, length, sym, ◌∙◌, arith}
use Rattle.std.proofs.lemmas.Result.{err_from_is_err_and}
use Rattle.blk_base.specs.Bytes.{IsBytes}
use Rattle.blk_base.specs.Keys.{KeyFits}
use Rattle.tree_range.specs.Shape.{leaf_items}
use Rattle.tree_range.proofs.Times.{child_shape}
use Rattle.tree_check.proofs.Each.{child_more, children_all, leaf_all, none_yet}
use Rattle.tree_check.proofs.ItemSteps.{child_fails, child_passes, children_begin, children_end, leaf_alone}
use Rattle.tree_check.proofs.Places.{always, body_is, on_ok}
use Rattle.tree_check.proofs.leaves.+check_below.Goals as goal

pub returns-then-level-eq0-clause-answer : goal.returns-then-level-eq0-clause-answer
returns-then-level-eq0-clause-answer t c =
    leaf_alone c.args.table.now c.args.at c.args.level c.args.before c.block-block.result.now (leaf_items c.args.table.now c.args.at.0) c.check_block.result (omega (arith, c.if-level-eq0.true)) c.block-block.ensures (body_is c.args.level c.args.table.now c.requires.0 c.args.at.0 c.block-block.result.now (omega (arith, c.if-level-eq0.true)) c.block-block.ensures c.requires.1)
    (c.check_block.ensures.answer (leaf_items c.args.table.now c.args.at.0) (body_is c.args.level c.args.table.now c.requires.0 c.args.at.0 c.block-block.result.now (omega (arith, c.if-level-eq0.true)) c.block-block.ensures c.requires.1))

pub returns-then-level-eq0-clause-bytes : goal.returns-then-level-eq0-clause-bytes
returns-then-level-eq0-clause-bytes t c =
    let body = body_is c.args.level c.args.table.now c.requires.0 c.args.at.0 c.block-block.result.now (omega (arith, c.if-level-eq0.true)) c.block-block.ensures c.requires.1 in
    on_ok c.check_block.result (leaf_all (λ key bytes. IsBytes bytes) c.args.table.now c.args.at.0 c.args.level c.block-block.result.now (leaf_items c.args.table.now c.args.at.0) (omega (arith, c.if-level-eq0.true)) c.block-block.ensures body) (c.check_block.ensures.bytes (leaf_items c.args.table.now c.args.at.0) body)

pub returns-then-level-eq0-clause-keys : goal.returns-then-level-eq0-clause-keys
returns-then-level-eq0-clause-keys t c =
    let body = body_is c.args.level c.args.table.now c.requires.0 c.args.at.0 c.block-block.result.now (omega (arith, c.if-level-eq0.true)) c.block-block.ensures c.requires.1 in
    always c.check_block.result (leaf_all (λ key bytes. KeyFits key) c.args.table.now c.args.at.0 c.args.level c.block-block.result.now (leaf_items c.args.table.now c.args.at.0) (omega (arith, c.if-level-eq0.true)) c.block-block.ensures body (c.check_block.ensures.keys (leaf_items c.args.table.now c.args.at.0) body))

pub loop-place-init : goal.loop-place-init
loop-place-init t c = record {
  answer = children_begin c.args.table.now c.args.at.0 c.args.level c.args.before c.block-block.result.now c.of_body-node.result (omega (arith, c.if-level-eq0.false)) c.block-block.ensures c.of_body-node.ensures;
  bytes = none_yet (λ key bytes. IsBytes bytes);
  keys = none_yet (λ key bytes. KeyFits key);
}

pub check_below-requires : goal.check_below-requires
check_below-requires t c =
    (omega (arith, c.if-level-eq0.false), (false, child_shape c.args.level c.args.table.now c.requires.0 c.args.at.0 c.block-block.result.now c.of_body-node.result c.loop-place.place c.child.result.0.0 c.child.result.1 (omega (arith, c.if-level-eq0.false)) c.block-block.ensures c.of_body-node.ensures c.requires.1 c.child.ensures))

pub returns-in_err-end-clause-answer : goal.returns-in_err-end-clause-answer
returns-in_err-end-clause-answer t c =
    let p = err_from_is_err_and c.from_residual.result c.from_residual.ensures.1 in
    rw (p.1, p.2) (sym (c.loop-place.invariant.answer ∙ child_fails (c.args.level - 1) c.args.table.now c.loop-place.end c.in_err-end.field-0.0 c.of_body-node.result c.loop-place.place c.child.result.0.0 c.child.result.1 c.child.ensures c.in_err-end.ensures.answer))

pub loop-place-preserved : goal.loop-place-preserved
loop-place-preserved t c = record {
  answer = c.loop-place.invariant.answer ∙ child_passes (c.args.level - 1) c.args.table.now c.loop-place.end c.in_ok-end.end c.of_body-node.result c.loop-place.place c.child.result.0.0 c.child.result.1 c.child.ensures c.in_ok-end.ensures.answer;
  bytes = child_more (λ key bytes. IsBytes bytes) (c.args.level - 1) c.args.table.now c.of_body-node.result c.loop-place.place c.child.result.0.0 c.child.result.1 c.child.ensures c.loop-place.invariant.bytes c.in_ok-end.ensures.bytes;
  keys = child_more (λ key bytes. KeyFits key) (c.args.level - 1) c.args.table.now c.of_body-node.result c.loop-place.place c.child.result.0.0 c.child.result.1 c.child.ensures c.loop-place.invariant.keys c.in_ok-end.ensures.keys;
}

pub returns-clause-answer : goal.returns-clause-answer
returns-clause-answer t c =
    let past : length c.of_body-node.result ≤ c.loop-place.place = let end = c.len-place-end.ensures.value in let test = c.loop-place-test.false in omega arith in
    sym (c.loop-place.invariant.answer ∙ children_end (c.args.level - 1) c.args.table.now c.loop-place.end c.of_body-node.result c.loop-place.place past)

pub returns-clause-bytes : goal.returns-clause-bytes
returns-clause-bytes t c =
    let past : length c.of_body-node.result ≤ c.loop-place.place = let end = c.len-place-end.ensures.value in let test = c.loop-place-test.false in omega arith in
    children_all (λ key bytes. IsBytes bytes) c.args.table.now c.args.at.0 c.args.level c.block-block.result.now c.of_body-node.result c.loop-place.place (omega (arith, c.if-level-eq0.false)) c.block-block.ensures c.of_body-node.ensures past c.loop-place.invariant.bytes

pub returns-clause-keys : goal.returns-clause-keys
returns-clause-keys t c =
    let past : length c.of_body-node.result ≤ c.loop-place.place = let end = c.len-place-end.ensures.value in let test = c.loop-place-test.false in omega arith in
    children_all (λ key bytes. KeyFits key) c.args.table.now c.args.at.0 c.args.level c.block-block.result.now c.of_body-node.result c.loop-place.place (omega (arith, c.if-level-eq0.false)) c.block-block.ensures c.of_body-node.ensures past c.loop-place.invariant.keys
