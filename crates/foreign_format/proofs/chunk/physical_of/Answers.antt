use Rattle.std.proofs.Common.{◌∙◌, drop, sym}
use Rattle.foreign_format.proofs.Rows.{drop_past, found_at, found_none, not_at}
use Rattle.foreign_format.proofs.chunk.physical_of.Goals as goal

pub returns-then-has_range-clause-value : goal.returns-then-has_range-clause-value
returns-then-has_range-clause-value c =
    rw c.from.ensures (sym (c.loop-chunk.invariant ∙ found_at c.args.chunks.now c.loop-chunk.chunk-index c.args.at c.args.count _ c.loop-chunk-test.true (sym c.has_range.ensures.value ∙ c.if-has_range.true)))

pub loop-chunk-preserved : goal.loop-chunk-preserved
loop-chunk-preserved c = c.loop-chunk.invariant ∙ not_at c.args.chunks.now c.loop-chunk.chunk-index c.args.at c.args.count _ c.loop-chunk-test.true (sym c.has_range.ensures.value ∙ c.if-has_range.false)

pub returns-clause-value : goal.returns-clause-value
returns-clause-value c = sym (c.loop-chunk.invariant ∙ found_none (drop c.loop-chunk.chunk-index c.args.chunks.now) c.args.at c.args.count (drop_past c.args.chunks.now c.loop-chunk.chunk-index c.loop-chunk-test.false))
