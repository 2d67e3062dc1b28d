use Rattle.std.proofs.Common.{sym}
use Rattle.name_walk.proofs.ItemLens.{dir_item_long, no_dir_item}
use Rattle.name_walk.proofs.lengths.dir_item_len.Goals as goal

pub returns-in-Some : goal.returns-in-Some
returns-in-Some c = λ sub given. dir_item_long c.args.table.now c.args.tree.now sub given.gives c.args.dir c.args.hash c.in-Some.bytes.now (sym c.in-Some.ensures)

pub returns-in-None : goal.returns-in-None
returns-in-None c = λ sub given. sym (no_dir_item c.args.table.now c.args.tree.now sub given.gives c.args.dir c.args.hash (sym c.in-None.ensures))
