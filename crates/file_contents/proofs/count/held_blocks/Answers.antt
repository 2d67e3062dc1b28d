-- The last run in front of the end has all blocks that are there from its begin on.
use Rattle.std.proofs.Common.{◌≡◌, ◌≤◌, ◌+◌, ◌-◌, ◌∙◌, ℕ, max, min, ap, arith}
use Rattle.tree_range.specs.Shape.{tree_items}
use Rattle.file_extents.specs.Extents.{held_between}
use Rattle.file_contents.proofs.Counting.{held_split}
use Rattle.file_contents.proofs.Runs.{held_step, none_held}
use Rattle.file_contents.proofs.count.held_blocks.Goals as goal

pub loop-end-preserved : goal.loop-end-preserved
loop-end-preserved c =
    let from = c.args.from in
    let end = c.loop-end.end in
    let run = c.in-Some.run' in
    let begin = c.max-begin.result in
    let low : from ≤ begin = omega (arith, c.max-begin.ensures) in (
      low,
      omega (arith, c.if-begin-end.false, c.loop-end.invariant.1),
      omega (arith, c.min-count.ensures, c.if-begin-end.false, c.loop-end.invariant.1, c.loop-end.invariant.2),
      λ blocks contents hold.
          let is : begin ≡ max run.begin from = c.max-begin.ensures in
          let step = held_step (tree_items c.args.table.now c.args.tree.now) blocks c.args.ino.0 contents hold from end run.begin run.at.0 run.blocks c.loop-end-test.true (c.in-Some.ensures blocks contents hold) in
          let here = ap (λ (m : ℕ). held_between contents m (end - m)) is in
          let split = held_split contents begin (end - begin) (c.args.to - end) in
          let whole : (end - begin) + (c.args.to - end) ≡ c.args.to - begin = omega (arith, c.if-begin-end.false, c.loop-end.invariant.1) in
          let start : begin + (end - begin) ≡ end = omega (arith, c.if-begin-end.false) in
          let sum = ap (held_between contents begin) whole in
          let moved = ap (λ (f : ℕ). held_between contents f (c.args.to - end)) start in
          counted (c.loop-end.invariant.3 blocks contents hold) (c.min-count.ensures ∙ ap (λ (n : ℕ). min n (end - begin)) c.saturating_sub.ensures ∙ ap (λ (m : ℕ). min (run.blocks - (m - run.begin)) (end - m)) is) (here ∙ step) (split ∙ ap (λ (n : ℕ). held_between contents begin (end - begin) + n) moved) sum,
    )
  where
    counted : {count more before step here all whole : ℕ} → count ≡ before → more ≡ step → here ≡ step → all ≡ here + before → all ≡ whole → count + more ≡ whole
    counted p q r s t = omega arith

pub returns-in-None : goal.returns-in-None
returns-in-None c = λ blocks contents hold.
    let from = c.args.from in
    let end = c.loop-end.end in
    let none = none_held (tree_items c.args.table.now c.args.tree.now) blocks c.args.ino.0 contents hold from end c.loop-end-test.true (c.in-None.ensures blocks contents hold) in
    let count = c.loop-end.invariant.3 blocks contents hold in
    let split = held_split contents from (end - from) (c.args.to - end) in
    let whole : (end - from) + (c.args.to - end) ≡ c.args.to - from = omega (arith, c.loop-end.invariant.0, c.loop-end.invariant.1) in
    let start : from + (end - from) ≡ end = omega (arith, c.loop-end.invariant.0) in
    let sum = ap (held_between contents from) whole in
    let moved = ap (λ (f : ℕ). held_between contents f (c.args.to - end)) start in
    omega (arith, none, count, split, sum, moved)
