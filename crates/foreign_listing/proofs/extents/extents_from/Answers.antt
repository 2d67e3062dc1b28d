use Rattle.std.proofs.Common.{◌∙◌, ◌==◌, [], drop, filter, sym, ap}
use Rattle.foreign_format.proofs.Rows.{drop_past}
use Rattle.foreign_items.specs.declared.rows.ExtentRow.{ExtentRow}
use Rattle.foreign_listing.specs.Lines.{extents_from}
use Rattle.foreign_listing.proofs.Rows.{extent_bad, extent_more, extents_end, extents_kept, kept_at}
use Rattle.foreign_listing.proofs.extents.extents_from.Goals as goal

pub loop-row-init : goal.loop-row-init
loop-row-init c =
    sym (extents_kept [] c.args.tree.now.extents.items c.args.ino)
    ∙ ap (λ rows. extents_from [] rows c.args.ino) (sym (c.of_inode-row-items.ensures ∙ ap (filter (λ (row : ExtentRow). row.key.objectid == c.args.ino)) c.deref.ensures.value))
    ∙ ap (λ extents. extents_from extents c.of_inode-row-items.result.now c.args.ino) (sym c.new-extents.ensures.items)

pub returns-in-Err-clause-answer : goal.returns-in-Err-clause-answer
returns-in-Err-clause-answer c =
    c.loop-row.invariant
    ∙ extent_bad c.loop-row.extents.items c.of_inode-row-items.result.now c.args.ino c.loop-row.row-index _ c.in-Err.fault c.loop-row-test.true
    (kept_at (λ (row : ExtentRow). row.key.objectid == c.args.ino) c.deref.result.now c.of_inode-row-items.result.now c.loop-row.row-index _ c.of_inode-row-items.ensures c.loop-row-test.true) (sym c.in-Err.ensures)

pub loop-row-preserved : goal.loop-row-preserved
loop-row-preserved c =
    c.loop-row.invariant
    ∙ extent_more c.loop-row.extents.items _ c.of_inode-row-items.result.now c.args.ino c.loop-row.row-index _ c.in-Ok.extent c.loop-row-test.true
    (kept_at (λ (row : ExtentRow). row.key.objectid == c.args.ino) c.deref.result.now c.of_inode-row-items.result.now c.loop-row.row-index _ c.of_inode-row-items.ensures c.loop-row-test.true) (sym c.in-Ok.ensures) c.in_ok-push-in-Ok.ensures.items

pub returns-clause-answer : goal.returns-clause-answer
returns-clause-answer c =
    c.loop-row.invariant
    ∙ extents_end c.loop-row.extents.items (drop c.loop-row.row-index c.of_inode-row-items.result.now) c.args.ino (drop_past c.of_inode-row-items.result.now c.loop-row.row-index c.loop-row-test.false)
