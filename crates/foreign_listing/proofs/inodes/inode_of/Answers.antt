use Rattle.std.proofs.Common.{◌∙◌, ◌==◌, drop, filter, sym, ap}
use Rattle.foreign_format.proofs.Rows.{drop_past}
use Rattle.foreign_items.specs.declared.rows.InodeRow.{InodeRow}
use Rattle.foreign_listing.specs.Lines.{inode_in}
use Rattle.foreign_listing.proofs.Rows.{inode_end, inode_found, inode_kept, inode_passed}
use Rattle.foreign_listing.proofs.inodes.inode_of.Goals as goal

pub loop-row-init : goal.loop-row-init
loop-row-init c =
    sym (inode_kept c.args.tree.now.sub c.args.tree.now.inodes.items c.args.ino)
    ∙ ap (λ rows. inode_in c.args.tree.now.sub rows c.args.ino) (sym (c.of_inode-row-items.ensures ∙ ap (filter (λ (row : InodeRow). row.key.objectid == c.args.ino)) c.deref.ensures.value))

pub returns-then-is_item_of : goal.returns-then-is_item_of
returns-then-is_item_of c =
    c.inode_at.ensures ∙ sym (c.loop-row.invariant ∙ inode_found c.args.tree.now.sub c.of_inode-row-items.result.now c.args.ino c.loop-row.row-index _ c.loop-row-test.true (sym c.is_item_of.ensures ∙ c.if-is_item_of.true))

pub loop-row-preserved : goal.loop-row-preserved
loop-row-preserved c = c.loop-row.invariant ∙ inode_passed c.args.tree.now.sub c.of_inode-row-items.result.now c.args.ino c.loop-row.row-index _ c.loop-row-test.true (sym c.is_item_of.ensures ∙ c.if-is_item_of.false)

pub returns : goal.returns
returns c = rw c.incoherent.ensures (sym (c.loop-row.invariant ∙ inode_end c.args.tree.now.sub (drop c.loop-row.row-index c.of_inode-row-items.result.now) c.args.ino (drop_past c.of_inode-row-items.result.now c.loop-row.row-index c.loop-row-test.false)))
