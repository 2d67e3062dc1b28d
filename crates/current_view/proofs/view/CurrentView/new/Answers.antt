use Rattle.current_view.proofs.Once.{run_is_seen, seen_is_given}
use Rattle.current_view.proofs.view.CurrentView.new.Goals as goal

pub invariant_of-result : goal.invariant_of-result
invariant_of-result c = seen_is_given c.args.table.now c.args.sub.now c.requires.0 c.requires.1

pub returns : goal.returns
returns c = λ run gives. run_is_seen c.args.table.now c.args.sub.now run gives
