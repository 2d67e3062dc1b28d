use Rattle.std.proofs.Common.{ap, sym, subst}
use Rattle.flat_model.specs.Walk.{is_blocked}
use Rattle.flat_sub.specs.Ends.{IsEnd}
use Rattle.flat_sub.proofs.walk.End.is_blocked.Goals as goal

pub returns-in-Root : goal.returns-in-Root
returns-in-Root c = λ names end is. sym (ap is_blocked (subst (IsEnd names end) c.in-Root.is is))

pub returns-in-Free : goal.returns-in-Free
returns-in-Free c = λ names end is. sym (ap is_blocked (subst (IsEnd names end) c.in-Free.is is))

pub returns-in-Missing : goal.returns-in-Missing
returns-in-Missing c = λ names end is. sym (ap is_blocked (subst (IsEnd names end) c.in-Missing.is is))

pub returns-in-Blocked : goal.returns-in-Blocked
returns-in-Blocked c = λ names end is. sym (ap is_blocked (subst (IsEnd names end) c.in-Blocked.is is))

pub returns-in-Taken : goal.returns-in-Taken
returns-in-Taken c = λ names end is. let taken = subst (IsEnd names end) c.in-Taken.is is in sym (ap is_blocked taken.slot)
