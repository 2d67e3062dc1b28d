use Rattle.std.proofs.Common.{sym}
use Rattle.name_walk.proofs.Reading.{refs_read, no_refs_read}
use Rattle.name_walk.proofs.item.refs_at.Goals as goal

pub returns-in-Some : goal.returns-in-Some
returns-in-Some c = λ sub gives. refs_read c.args.table.now c.args.tree.now sub gives c.args.ino c.args.dir c.in-Some.bytes.now c.refs_in.result (sym c.in-Some.ensures) c.refs_in.ensures

pub returns-in-None : goal.returns-in-None
returns-in-None c = λ sub gives. no_refs_read c.args.table.now c.args.tree.now sub gives c.args.ino c.args.dir (sym c.in-None.ensures)
