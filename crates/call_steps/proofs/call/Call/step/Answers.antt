use Rattle.std.proofs.Common.{◌≡◌, None, OnErr, Ok, Err, IfOk, length, ap, sym, subst, ◌∙◌}
use Rattle.commit_room.specs.Room.{free_blocks}
use Rattle.call_steps.specs.Steps.{HasStepped, LeavesFew, MayStep, marks_after}
use Rattle.call_steps.proofs.Turns.{new_has_none, none_leaves}
use Rattle.call_steps.proofs.call.Call.step.Goals as goal

pub begin-requires-clause-may : goal.begin-requires-clause-may
begin-requires-clause-may g c =
    let may = c.requires.may in
    let none = new_has_none (g.C.Core.out c.args.core.now) may.0 may.1 c.args.self.now c.args.done may.3 c.in-New.is in
    (may.0, may.1, may.2, subst (MayStep (g.C.Core.out c.args.core.now) may.0 may.1 c.args.self.now) none may.3)

pub end_commit-requires-clause-may : goal.end_commit-requires-clause-may
end_commit-requires-clause-may g c = let may = c.requires.may in (may.0, may.1, may.2, subst (MayStep (g.C.Core.out c.args.core.now) may.0 may.1 c.args.self.now) c.in-Some.is may.3)

pub go_on-requires-clause-may : goal.go_on-requires-clause-may
go_on-requires-clause-may g c = let may = c.requires.may in (may.0, may.1, may.2, subst (MayStep (g.C.Core.out c.args.core.now) may.0 may.1 c.args.self.now) c.in-None.is may.3)

pub returns-in-New-clause-marks : goal.returns-in-New-clause-marks
returns-in-New-clause-marks g c =
    let may = c.requires.may in
    c.begin.ensures.marks ∙ ap (marks_after (g.C.Core.marks c.args.core.now)) (sym (new_has_none (g.C.Core.out c.args.core.now) may.0 may.1 c.args.self.now c.args.done may.3 c.in-New.is))

pub returns-in-New-clause-stepped : goal.returns-in-New-clause-stepped
returns-in-New-clause-stepped g c mounted scene has may =
    let none = new_has_none (g.C.Core.out c.args.core.now) mounted scene c.args.self.now c.args.done may c.in-New.is in
    let free = free_blocks (g.C.Core.size c.args.core.now) (length (g.C.Core.in_use c.args.core.now)) in
    subst (λ done. IfOk c.begin.result (HasStepped (g.C.Core.has c.begin.new.core) (c.begin.new.core ≡ c.args.core.now) mounted scene c.args.self.now c.begin.new.self done free (g.C.Core.made c.begin.new.core))) (sym none)
    (c.begin.ensures.stepped mounted scene has (subst (MayStep (g.C.Core.out c.args.core.now) mounted scene c.args.self.now) none may))

pub returns-in-New-clause-no_work : goal.returns-in-New-clause-no_work
returns-in-New-clause-no_work g c =
    let may = c.requires.may in
    let none = new_has_none (g.C.Core.out c.args.core.now) may.0 may.1 c.args.self.now c.args.done may.3 c.in-New.is in
    elim c.begin.result as (λ r. OnErr r (c.args.done ≡ None)) [ Ok next ↦ tt | Err memory ↦ none ]

pub returns-in-New-clause-few : goal.returns-in-New-clause-few
returns-in-New-clause-few g c mounted scene has may just =
    let none = new_has_none (g.C.Core.out c.args.core.now) mounted scene c.args.self.now c.args.done may c.in-New.is in
    subst (λ done. IfOk c.begin.result (LeavesFew mounted scene c.args.self.now.caller (length (g.C.Core.in_use c.begin.new.core)) done)) (sym none)
    (none_leaves mounted scene c.args.self.now.caller (length (g.C.Core.in_use c.begin.new.core)) c.begin.result)

pub returns-in-Some-clause-few : goal.returns-in-Some-clause-few
returns-in-Some-clause-few g c mounted scene has may just =
    subst (λ done. LeavesFew mounted scene c.args.self.now.caller (length (g.C.Core.in_use c.end_commit.new.core)) done c.end_commit.result) (sym c.in-Some.is)
    (c.end_commit.ensures.few mounted scene has (subst (MayStep (g.C.Core.out c.args.core.now) mounted scene c.args.self.now) c.in-Some.is may) just)

pub returns-in-None-clause-few : goal.returns-in-None-clause-few
returns-in-None-clause-few g c mounted scene has may just =
    subst (λ done. IfOk c.go_on.result (LeavesFew mounted scene c.args.self.now.caller (length (g.C.Core.in_use c.go_on.new.core)) done)) (sym c.in-None.is)
    (none_leaves mounted scene c.args.self.now.caller (length (g.C.Core.in_use c.go_on.new.core)) c.go_on.result)
