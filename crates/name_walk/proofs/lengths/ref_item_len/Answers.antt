use Rattle.std.proofs.Common.{sym}
use Rattle.name_walk.proofs.ItemLens.{ref_item_long, no_ref_item}
use Rattle.name_walk.proofs.lengths.ref_item_len.Goals as goal

pub returns-in-Some : goal.returns-in-Some
returns-in-Some c = λ sub given other. ref_item_long c.args.table.now c.args.tree.now sub given.gives c.args.ino c.args.dir c.in-Some.bytes.now other (sym c.in-Some.ensures)

pub returns-in-None : goal.returns-in-None
returns-in-None c = λ sub given other. sym (no_ref_item c.args.table.now c.args.tree.now sub given.gives c.args.ino c.args.dir (sym c.in-None.ensures))
