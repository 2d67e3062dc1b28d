use Rattle.std.proofs.Common.{true, false}
use Rattle.recovered_view.specs.Log.{log_said}
use Rattle.recovered_view.proofs.InSlot.{held_kept, no_held}
use Rattle.recovered_view.proofs.slot.kept_slot.Goals as goal

pub returns-in-Some : goal.returns-in-Some
returns-in-Some c = λ sub given. held_kept sub (log_said c.args.table.now c.args.log) given.coherent c.args.dir c.args.name.now c.in-Some.held true (c.in-Some.ensures sub given) c.if-is_kept.ensures

pub returns-in-Some-2 : goal.returns-in-Some-2
returns-in-Some-2 c = λ sub given. held_kept sub (log_said c.args.table.now c.args.log) given.coherent c.args.dir c.args.name.now c.in-Some.held false (c.in-Some.ensures sub given) c.if-is_kept.ensures

pub returns-in-None : goal.returns-in-None
returns-in-None c = λ sub given. no_held sub (log_said c.args.table.now c.args.log) given.coherent c.args.dir c.args.name.now (c.in-None.ensures sub given)
