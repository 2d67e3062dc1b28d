use Rattle.std.proofs.Common.{sym}
use Rattle.name_walk.proofs.Reading.{entries_read, no_entries_read}
use Rattle.name_walk.proofs.item.entries_at.Goals as goal

pub returns-in-Some-clause-same : goal.returns-in-Some-clause-same
returns-in-Some-clause-same c = λ sub gives. entries_read c.args.table.now c.args.tree.now sub gives c.args.dir c.args.hash c.in-Some.bytes.now c.entries_in.result (sym c.in-Some.ensures) c.entries_in.ensures.spelled

pub returns-in-None-clause-same : goal.returns-in-None-clause-same
returns-in-None-clause-same c = λ sub gives. no_entries_read c.args.table.now c.args.tree.now sub gives c.args.dir c.args.hash (sym c.in-None.ensures)
