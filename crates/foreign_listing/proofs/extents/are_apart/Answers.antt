use Rattle.std.proofs.Common.{◌∙◌, drop, sym}
use Rattle.foreign_format.proofs.Rows.{drop_past}
use Rattle.foreign_listing.proofs.Rows.{apart_bad, apart_end, apart_more}
use Rattle.foreign_listing.proofs.extents.are_apart.Goals as goal

pub returns-then-from-end : goal.returns-then-from-end
returns-then-from-end c = sym (c.loop-extent.invariant ∙ apart_bad c.loop-extent.end c.args.extents.now c.loop-extent.extent-index _ c.from.result c.loop-extent-test.true c.from.ensures c.if-from-end.true)

pub loop-extent-preserved : goal.loop-extent-preserved
loop-extent-preserved c =
    c.loop-extent.invariant
    ∙ apart_more c.loop-extent.end c.args.extents.now c.loop-extent.extent-index _ c.from.result c.from-in-loop-extent.result c.length.result c.from-in-loop-extent-2.result
    c.loop-extent-test.true c.from.ensures c.if-from-end.false c.from-in-loop-extent.ensures c.length.ensures c.from-in-loop-extent-2.ensures

pub returns : goal.returns
returns c = sym (c.loop-extent.invariant ∙ apart_end c.loop-extent.end (drop c.loop-extent.extent-index c.args.extents.now) (drop_past c.args.extents.now c.loop-extent.extent-index c.loop-extent-test.false))
