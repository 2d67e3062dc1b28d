use Rattle.std.proofs.Common.{sym}
use Rattle.flat_check.proofs.Views.{above_at, above_none}
use Rattle.flat_check.proofs.ways.dir_above.Goals as goal

pub returns-in-Some : goal.returns-in-Some
returns-in-Some c = above_at c.args.dir c.args.sub.now.names.items c.args.sub.now.near.items c.in-Some.at c.index.result.now c.requires.marked (sym c.in-Some.ensures) c.index.ensures

pub returns-in-None : goal.returns-in-None
returns-in-None c = above_none c.args.dir c.args.sub.now.names.items c.args.sub.now.near.items (sym c.in-None.ensures)
