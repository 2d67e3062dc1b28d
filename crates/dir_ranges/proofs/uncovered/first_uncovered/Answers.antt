use Rattle.std.proofs.Common.{sym, ap, ◌∙◌}
use Rattle.log_image.specs.LogItems.{ranges_in}
use Rattle.tree_range.specs.Shape.{tree_items}
use Rattle.dir_ranges.specs.Gone.{first_uncovered}
use Rattle.dir_ranges.proofs.Loops.{item_found, item_missed}
use Rattle.dir_ranges.proofs.uncovered.first_uncovered.Goals as goal

pub loop-key-init : goal.loop-key-init
loop-key-init c = (ap (first_uncovered (ranges_in (tree_items c.args.table.now c.args.log.now))) (c.into_iter-key-iterator.ensures.into_iter_gives ∙ c.range-key-items.ensures), tt, tt)

pub returns-in-Some-place_in : goal.returns-in-Some-place_in
returns-in-Some-place_in c =
    item_found (ranges_in (tree_items c.args.table.now c.args.log.now)) c.loop-key.key-iterator c.next.new.self (c.in-Some.key, c.in-Some.bytes.now) c.in-Some-place_in.place _ c.loop-key.invariant.0 c.in-Some.ensures.steps (sym c.in-Some-place_in.ensures)

pub loop-key-preserved : goal.loop-key-preserved
loop-key-preserved c =
    (item_missed (ranges_in (tree_items c.args.table.now c.args.log.now)) c.loop-key.key-iterator c.next.new.self (c.in-Some.key, c.in-Some.bytes.now) _ c.loop-key.invariant.0 c.in-Some.ensures.steps (sym c.place_in.ensures ∙ c.in_default.is), tt, tt)
