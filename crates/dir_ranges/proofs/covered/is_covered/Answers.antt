use Rattle.std.proofs.Common.{sym, ap, ◌∙◌}
use Rattle.std.specs.List.{list_any}
use Rattle.blk_base.specs.Leaf.{Item}
use Rattle.tree_range.specs.Shape.{tree_items}
use Rattle.dir_ranges.specs.Ranges.{does_reach}
use Rattle.dir_ranges.proofs.Loops.{any_found, any_step}
use Rattle.dir_ranges.proofs.Covering.{covered_between}
use Rattle.dir_ranges.proofs.covered.is_covered.Goals as goal

pub loop-key-init : goal.loop-key-init
loop-key-init c = (ap (list_any (λ (item : Item). does_reach c.args.place.index item.1)) (c.into_iter-key-iterator.ensures.into_iter_gives ∙ c.range-key-items.ensures) ∙ covered_between c.args.place.dir c.args.place.index (tree_items c.args.table.now c.args.log.now), tt, tt)

pub returns-then-does_reach : goal.returns-then-does_reach
returns-then-does_reach c =
    any_found (λ (item : Item). does_reach c.args.place.index item.1) c.loop-key._key-iterator c.next.new.self (c.in-Some._key, c.in-Some.bytes.now) _ c.loop-key.invariant.0 c.in-Some.ensures.steps (sym c.does_reach.ensures ∙ c.if-does_reach.true)

pub loop-key-preserved : goal.loop-key-preserved
loop-key-preserved c =
    (any_step (λ (item : Item). does_reach c.args.place.index item.1) c.loop-key._key-iterator c.next.new.self (c.in-Some._key, c.in-Some.bytes.now) _ c.loop-key.invariant.0 c.in-Some.ensures.steps (sym c.does_reach.ensures ∙ c.if-does_reach.false), tt, tt)
