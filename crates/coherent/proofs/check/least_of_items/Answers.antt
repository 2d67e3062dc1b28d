use Rattle.std.proofs.Common.{List, subst, sym, ◌∙◌}
use Rattle.blk_base.specs.Leaf.{Item}
use Rattle.table_volume.specs.Gives.{data_in}
use Rattle.tree_range.specs.Shape.{tree_items}
use Rattle.coherent.specs.Answer.{IsLeastSeen}
use Rattle.coherent.proofs.Seen.{begin_seen, seen_right, seen_wrong}
use Rattle.coherent.proofs.check.least_of_items.Goals as goal

pub loop-key-init : goal.loop-key-init
loop-key-init c =
    let items = tree_items c.args.table.now c.args.tree.now in
    let are = c.into_iter-key-iterator.ensures.into_iter_gives ∙ c.every_item-key-items.ensures in (
      subst (λ (rest : List Item). IsLeastSeen items c.args.table.now c.args.survey.now rest c.args.least) (sym are)
          (begin_seen items c.args.table.now c.args.survey.now c.requires.readable c.requires.there c.requires.survey c.args.least c.requires.least),
      tt,
      tt,
    )

pub loop-key-preserved-then-not-is_right_item : goal.loop-key-preserved-then-not-is_right_item
loop-key-preserved-then-not-is_right_item c =
    let items = tree_items c.args.table.now c.args.tree.now in
    let old = subst (λ (rest : List Item). IsLeastSeen items c.args.table.now c.args.survey.now rest c.loop-key.least) c.in-Some.ensures.steps c.loop-key.invariant.0 in (
      seen_wrong items c.args.table.now c.args.survey.now c.requires.readable c.requires.there c.requires.survey c.next.new.self c.in-Some.key c.in-Some.bytes.now c.loop-key.least c.lower-least.result c.is_right_item.result
          old c.if-not-is_right_item.true (c.is_right_item.ensures.complete (data_in c.args.table.now)) c.lower-least.ensures,
      tt,
      tt,
    )

pub loop-key-preserved : goal.loop-key-preserved
loop-key-preserved c =
    let items = tree_items c.args.table.now c.args.tree.now in
    let old = subst (λ (rest : List Item). IsLeastSeen items c.args.table.now c.args.survey.now rest c.loop-key.least) c.in-Some.ensures.steps c.loop-key.invariant.0 in (
      seen_right items c.args.table.now c.args.survey.now c.requires.readable c.requires.there c.requires.survey c.next.new.self c.in-Some.key c.in-Some.bytes.now c.loop-key.least
          old (c.is_right_item.ensures.sound (data_in c.args.table.now) c.if-not-is_right_item.false),
      tt,
      tt,
    )
