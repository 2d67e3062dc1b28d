use Rattle.std.proofs.Common.{◌∙◌, drop, refl, sym}
use Rattle.std.proofs.lemmas.List.Elements.{All-push}
use Rattle.foreign_format.specs.Chunks.{IsOnDisk}
use Rattle.foreign_format.proofs.Rows.{drop_past, fault_at, bad_at, more_at, in_row_end}
use Rattle.foreign_format.proofs.chunk.mapped.Goals as goal

pub returns-in-Err-clause-answer : goal.returns-in-Err-clause-answer
returns-in-Err-clause-answer c = c.loop-row.invariant.rest ∙ fault_at c.args.disk_size c.loop-row.end c.loop-row.chunks.items c.args.rows.now c.loop-row.row-index _ c.in-Err.fault c.loop-row-test.true c.in-Err.is

pub returns-then-not-follows-clause-answer : goal.returns-then-not-follows-clause-answer
returns-then-not-follows-clause-answer c =
    c.loop-row.invariant.rest ∙ bad_at c.args.disk_size c.loop-row.end c.loop-row.chunks.items c.args.rows.now c.loop-row.row-index _ c.in-Ok.chunk c.loop-row-test.true c.in-Ok.is (sym c.follows.ensures.value ∙ c.if-not-follows.true)

pub loop-row-preserved : goal.loop-row-preserved
loop-row-preserved c = record {
  rest = c.loop-row.invariant.rest
      ∙ more_at c.args.disk_size c.loop-row.end c.loop-row.chunks.items c.args.rows.now c.loop-row.row-index _ c.in-Ok.chunk c.loop-row-test.true c.in-Ok.is (sym c.follows.ensures.value ∙ c.if-not-follows.false)
      ∙ sym (rw (c.in_ok-push-in-Ok.ensures.items, c.end_of-end.ensures) refl);
  on_disk = rw c.in_ok-push-in-Ok.ensures.items (All-push (IsOnDisk c.args.disk_size) c.loop-row.chunks.items c.in-Ok.chunk c.loop-row.invariant.on_disk (c.follows.ensures.on_disk c.if-not-follows.false));
}

pub returns-clause-answer : goal.returns-clause-answer
returns-clause-answer c = c.loop-row.invariant.rest ∙ in_row_end c.args.disk_size c.loop-row.end c.loop-row.chunks.items (drop c.loop-row.row-index c.args.rows.now) (drop_past c.args.rows.now c.loop-row.row-index c.loop-row-test.false)
