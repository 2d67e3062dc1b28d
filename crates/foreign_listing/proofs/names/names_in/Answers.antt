use Rattle.std.proofs.Common.{◌∙◌, [], arith}
use Rattle.foreign_listing.specs.View.{entries_view, put_entries}
use Rattle.foreign_listing.proofs.Naming.{order_done, order_stop, order_turn}
use Rattle.foreign_listing.proofs.names.names_in.Goals as goal

pub returns-in-Err-clause-answer : goal.returns-in-Err-clause-answer
returns-in-Err-clause-answer c =
    c.loop-row.invariant.order ∙ order_stop c.args.rows.now c.loop-row.row-index c.row-item.result _ (put_entries [] (entries_view c.loop-row.names.items)) c.loop-row-test.true c.row-item.is c.in-Err.is

pub loop-row-preserved : goal.loop-row-preserved
loop-row-preserved c = record {
  order = c.loop-row.invariant.order ∙ order_turn c.args.rows.now c.loop-row.row-index c.row-item.result _ c.loop-row.names.items c.push.new.self.items c.loop-row-test.true c.row-item.is c.in-Ok.is c.in_ok-push-in-Ok.ensures.items;
  len = let before = c.loop-row.invariant.len in let more = c.in_ok-push-in-Ok.ensures.len in omega (arith, before, more);
}

pub returns-clause-answer : goal.returns-clause-answer
returns-clause-answer c = c.loop-row.invariant.order ∙ order_done c.args.rows.now c.loop-row.row-index (put_entries [] (entries_view c.loop-row.names.items)) c.loop-row-test.false
