use Rattle.std.proofs.Common.{◌≤◌, ◌+◌, Option, drop, length, refl, sym, ap, ◌∙◌, arith}
use Rattle.blk_base.specs.Bytes.{IsBytes}
use Rattle.tree_check.specs.declared.item.FileEnd.{FileEnd}
use Rattle.tree_check.specs.Items.{leaf_checked}
use Rattle.tree_check.proofs.Each.{item_more, items_all, none_yet}
use Rattle.tree_check.proofs.ItemSteps.{item_fails, item_passes, items_end}
use Rattle.tree_check.proofs.leaves.check_leaf.Goals as goal

pub loop-place-init : goal.loop-place-init
loop-place-init c = record { answer = refl; bytes = none_yet (λ key bytes. IsBytes bytes) }

pub returns-in-Some-clause-answer : goal.returns-in-Some-clause-answer
returns-in-Some-clause-answer c =
    sym (c.loop-place.invariant.answer ∙ item_fails c.args.at c.loop-place.end c.args.leaf.now c.loop-place.place (c.item_at.result.0, c.item_at.result.1.now) c.in-Some.fault c.item_at.ensures (sym c.in-Some.ensures.fault))

pub loop-place-preserved : goal.loop-place-preserved
loop-place-preserved c = record {
  answer =
      c.loop-place.invariant.answer ∙ item_passes c.args.at c.loop-place.end c.args.leaf.now c.loop-place.place (c.item_at.result.0, c.item_at.result.1.now) c.item_at.ensures (sym c.in_default.ensures.fault)
      ∙ ap (λ (end : Option FileEnd). leaf_checked c.args.at end (drop (c.loop-place.place + 1) c.args.leaf.now)) (sym c.end_of-end.ensures);
  bytes = item_more (λ key bytes. IsBytes bytes) c.args.leaf.now c.loop-place.place (c.item_at.result.0, c.item_at.result.1.now) c.item_at.ensures c.loop-place.invariant.bytes c.fault_behind.ensures.bytes;
}

pub returns-clause-answer : goal.returns-clause-answer
returns-clause-answer c =
    let past : length c.args.leaf.now ≤ c.loop-place.place = let end = c.len-place-end.ensures.value in let test = c.loop-place-test.false in omega arith in
    sym (c.loop-place.invariant.answer ∙ items_end c.args.at c.loop-place.end c.args.leaf.now c.loop-place.place past)

pub returns-clause-bytes : goal.returns-clause-bytes
returns-clause-bytes c =
    let past : length c.args.leaf.now ≤ c.loop-place.place = let end = c.len-place-end.ensures.value in let test = c.loop-place-test.false in omega arith in
    items_all (λ key bytes. IsBytes bytes) c.args.leaf.now c.loop-place.place past c.loop-place.invariant.bytes
