use Rattle.std.proofs.Common.{◌≡◌, Some, length, sym, subst}
use Rattle.flat_model.specs.declared.answer.Answer.TheVariants as answers
use Rattle.commit_room.specs.Room.{free_blocks}
use Rattle.commit_history.specs.declared.event.Event.TheVariants as event
use Rattle.call_steps.specs.Steps.{EndsBy, IsResultOf, LeavesFew}
use Rattle.call_steps.proofs.Turns.{commit_failed, failure_of, finishes, leaves_few, steps_done, told_by}
use Rattle.call_steps.proofs.call.Call.end_commit.Goals as goal

pub full_done-requires-clause-has : goal.full_done-requires-clause-has
full_done-requires-clause-has g c = let may = c.requires.may in (may.0, may.1, may.2, may.3.back.runs, subst (IsResultOf may.1) c.in-Ok.is may.3.back.result)

pub failed-requires-clause-has : goal.failed-requires-clause-has
failed-requires-clause-has g c =
    let may = c.requires.may in
    let failure = failure_of may.1 c.in-Err-Disk.field-0 (subst (IsResultOf may.1) c.in-Err-Disk.is may.3.back.result) in
    (may.0, may.1, may.2, may.3.back.runs, rw failure.1 failure.2)

pub returns-in-Ok-clause-stepped : goal.returns-in-Ok-clause-stepped
returns-in-Ok-clause-stepped g c mounted scene has may =
    steps_done (g.C.Core.has c.full_done.new.self) (c.full_done.new.self ≡ c.args.core.now) mounted scene c.args.self.now c.end_covering.new.self c.args.outcome (free_blocks (g.C.Core.size c.args.core.now) (length (g.C.Core.in_use c.args.core.now))) (g.C.Core.made c.full_done.new.self) c.end_covering.result
    may.orderly may.at c.requires.wants may.back.runs (subst (λ r. EndsBy r (event.FullDone c.args.self.now.caller)) (sym c.in-Ok.is) tt) (c.full_done.ensures.came mounted scene has may.back.runs (subst (IsResultOf scene) c.in-Ok.is may.back.result)) c.end_covering.ensures.sync c.end_covering.ensures.other

pub returns-in-Err-Disk-clause-stepped : goal.returns-in-Err-Disk-clause-stepped
returns-in-Err-Disk-clause-stepped g c mounted scene has may =
    let free = free_blocks (g.C.Core.size c.args.core.now) (length (g.C.Core.in_use c.args.core.now)) in
    let failure = failure_of scene c.in-Err-Disk.field-0 (subst (IsResultOf scene) c.in-Err-Disk.is may.back.result) in
    finishes (g.C.Core.has c.failed.new.self) (c.failed.new.self ≡ c.args.core.now) mounted scene c.args.self.now c.finish.new.self (Some c.args.outcome) free (g.C.Core.made c.failed.new.self) answers.Io c.finish.result
    c.finish.ensures.new c.finish.ensures.answer
    (commit_failed (g.C.Core.has c.failed.new.self) mounted scene c.args.self.now may.orderly may.at c.requires.wants may.back.runs c.args.outcome _ free (g.C.Core.made c.failed.new.self)
    (c.failed.ensures.came mounted scene has may.back.runs (rw failure.1 failure.2)) (told_by scene c.args.outcome.result c.in-Err-Disk.field-0 failure.0 c.args.self.now.caller _ c.in-Err-Disk.is failure.1 failure.2 (rw failure.1 failure.2)))

pub returns-in-Ok-clause-few : goal.returns-in-Ok-clause-few
returns-in-Ok-clause-few g c mounted scene has may just =
    leaves_few mounted scene c.args.self.now.caller (length (g.C.Core.in_use c.full_done.new.self)) c.args.outcome c.end_covering.result
    (c.full_done.ensures.few mounted scene has may.back.runs (subst (IsResultOf scene) c.in-Ok.is may.back.result) just)

pub returns-in-Err-Disk-clause-few : goal.returns-in-Err-Disk-clause-few
returns-in-Err-Disk-clause-few g c mounted scene has may just =
    subst (LeavesFew mounted scene c.args.self.now.caller (length (g.C.Core.in_use c.failed.new.self)) (Some c.args.outcome)) (sym c.finish.ensures.answer) tt
