use Rattle.log_root.specs.Entries.{log_entries}
use Rattle.log_root.proofs.Shapes.{one_leaf_built}
use Rattle.log_root.proofs.tree.build_leaf.Goals as goal

pub returns-clause-built : goal.returns-clause-built
returns-clause-built c =
    let e = c.write_leaf.ensures in
    one_leaf_built c.args.table.now c.write_leaf.new.table c.args.at 18446744073709551610 (log_entries c.args.subs.now) c.requires.set e.items e.leaf e.written c.requires.rise
