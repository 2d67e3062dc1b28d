use Rattle.std.proofs.Common.{arith, ◌+◌, ◌-◌, ◌∙◌, refl, sym}
use Rattle.foreign_format.proofs.Rows.{array_done, array_bad, array_more, array_zero}
use Rattle.foreign_format.proofs.chunk.array_rows.Goals as goal

pub returns-then-is_empty : goal.returns-then-is_empty
returns-then-is_empty c = c.loop-n.invariant ∙ array_done (32 - c.loop-n.n) c.loop-n.rows.items c.loop-n.rest.now (grind (arith, c.is_empty.ensures, c.if-is_empty.true))

pub returns-then-not-has_row : goal.returns-then-not-has_row
returns-then-not-has_row c =
    c.loop-n.invariant ∙ array_bad (32 - c.loop-n.n) c.loop-n.rows.items c.loop-n.rest.now (omega (arith, c.loop-n-test.true)) (sym c.is_empty.ensures ∙ c.if-is_empty.false) (sym c.has_row.ensures.value ∙ c.if-not-has_row.true)

pub loop-n-preserved : goal.loop-n-preserved
loop-n-preserved c =
    c.loop-n.invariant
    ∙ array_more (32 - c.loop-n.n) (32 - (c.loop-n.n + 1)) c.loop-n.rows.items c.loop-n.rest.now (omega (arith, c.loop-n-test.true)) (sym c.is_empty.ensures ∙ c.if-is_empty.false) (sym c.has_row.ensures.value ∙ c.if-not-has_row.false)
    ∙ sym (rw (c.in_ok-put_row.ensures, c.chunk_row.ensures, c.u64_at.ensures, c.split_at.ensures.back, c.row_end-end.ensures.value) refl)

pub returns : goal.returns
returns c = c.loop-n.invariant ∙ array_zero (32 - c.loop-n.n) c.loop-n.rows.items c.loop-n.rest.now (omega (arith, c.loop-n-test.false))
