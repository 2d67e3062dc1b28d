use Rattle.std.proofs.Common.{◌≡◌, take, filter, not, nat_eq}
use Rattle.std.specs.List.{list_any}
use Rattle.commit_callers.specs.Wants.{callers_in}
use Rattle.commit_callers.proofs.wants.Wants.remove_all.Given as goal

abbrev pub invariant-loop-caller : goal.invariant-loop-caller
invariant-loop-caller l = callers_in l.left ≡ filter (λ caller. not (list_any (nat_eq caller) (callers_in l.others))) (take l.caller-index l.caller-items)
