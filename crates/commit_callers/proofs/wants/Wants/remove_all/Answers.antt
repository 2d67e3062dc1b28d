use Rattle.std.proofs.Common.{not}
use Rattle.std.specs.Bool.{nat_eq}
use Rattle.std.specs.List.{list_any}
use Rattle.commit_callers.specs.Wants.{callers_in}
use Rattle.commit_callers.proofs.Order.{fresh_filtered}
use Rattle.commit_callers.proofs.wants.Wants.remove_all.Goals as goal

pub push-requires-clause-other : goal.push-requires-clause-other
push-requires-clause-other c =
    rw c.loop-caller.invariant (fresh_filtered (λ caller. not (list_any (nat_eq caller) (callers_in c.args.others.now))) c.callers-caller-items.result.now c.loop-caller.caller-index 0 c.callers-caller-items.ensures.are c.loop-caller-test.true)
