use Rattle.std.proofs.Common.{sym, subst}
use Rattle.format_laws.specs.Items.{InodeFits, IsInode-from_read, inode_reads_back}
use Rattle.blk_base.specs.Items.{InodeValue, inode_bytes}
use Rattle.item_inode.specs.Inode.{inode_view}
use Rattle.tree_check.specs.Items.{HaveKeys}
use Rattle.tree_range.specs.Shape.{tree_items}
use Rattle.log_items.proofs.Walk.{keys_with}
use Rattle.log_items.proofs.item.write_item.Goals as goal

pub returns-clause-spelled : goal.returns-clause-spelled
returns-clause-spelled c = λ mode.
    let value : InodeValue = inode_view c.args.item.now in
    let fits : InodeFits value = record {
      generation = c.numbers_fit.ensures.generation;
      transid = c.numbers_fit.ensures.transid;
      size = c.numbers_fit.ensures.size;
      nbytes = c.numbers_fit.ensures.nbytes;
      nlink = c.numbers_fit.ensures.nlink;
      mode = mode;
    } in
    IsInode-from_read (inode_bytes value) value (inode_reads_back value fits)

pub returns-clause-keys : goal.returns-clause-keys
returns-clause-keys c = λ keys.
    subst HaveKeys (sym c.put_or_replace.ensures.items) (keys_with c.inode_key.result c.encode.new.into (tree_items c.args.table.now c.args.log.now) c.inode_key.ensures.fits keys)
