use Rattle.std.proofs.Common.{arith}
use Rattle.std.proofs.lemmas.List.{take_more_set}
use Rattle.commit_callers.proofs.Order.{callers_push, places_left}
use Rattle.commit_callers.proofs.wants.Wants.push.Goals as goal

pub bounds-self-self : goal.bounds-self-self
bounds-self-self c =
    let wants = c.args.self.now in
    places_left wants.callers wants.count c.args.caller (omega arith) wants.within wants.are_callers c.requires.caller c.requires.other

pub invariant_of-self : goal.invariant_of-self
invariant_of-self c =
    let wants = c.args.self.now in
    let left = places_left wants.callers wants.count c.args.caller (omega arith) wants.within wants.are_callers c.requires.caller c.requires.other in
    record {
      within = omega (arith, left);
      are_callers = rw (take_more_set wants.callers wants.count c.args.caller (omega arith)) (callers_push _ c.args.caller wants.are_callers c.requires.caller c.requires.other);
    }
