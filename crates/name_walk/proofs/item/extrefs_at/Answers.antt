use Rattle.std.proofs.Common.{sym}
use Rattle.name_walk.proofs.Reading.{extrefs_read, no_extrefs_read}
use Rattle.name_walk.proofs.item.extrefs_at.Goals as goal

pub returns-in-Some : goal.returns-in-Some
returns-in-Some c = λ sub gives. extrefs_read c.args.table.now c.args.tree.now sub gives c.args.ino c.args.hash c.in-Some.bytes.now c.extrefs_in.result (sym c.in-Some.ensures) c.extrefs_in.ensures

pub returns-in-None : goal.returns-in-None
returns-in-None c = λ sub gives. no_extrefs_read c.args.table.now c.args.tree.now sub gives c.args.ino c.args.hash (sym c.in-None.ensures)
