use Rattle.std.proofs.Common.{sym, subst}
use Rattle.tree_check.specs.Items.{HaveKeys}
use Rattle.tree_range.specs.Shape.{tree_items}
use Rattle.log_items.specs.Inode.{first_at, items_at, last_at}
use Rattle.log_items.proofs.Writings.{keys_between, keys_with_range}
use Rattle.log_items.proofs.whole.write_items_at.Goals as goal

pub returns-clause-writing : goal.returns-clause-writing
returns-clause-writing c =
    let first = first_at c.args.ino.0 c.args.kind in
    let last = last_at c.args.ino.0 c.args.kind in
    let theirs = tree_items c.args.table.now c.args.from.now in
    let items = tree_items c.args.table.now c.args.log.now in
    let done = c.write_range.ensures in
    record {
      tree = done.tree;
      current = done.current;
      keys = subst HaveKeys (sym done.items) (keys_with_range first last (items_at c.args.ino.0 c.args.kind theirs) items (keys_between first last theirs c.requires.may.their_keys) c.requires.may.keys);
      owner = done.owner;
      edit = done.edit;
      alike = done.from;
      sealed = done.sealed;
      blocks = done.blocks;
      buffers = done.buffers;
    }
