use Rattle.std.proofs.Common.{cond, sym, ap, ◌∙◌}
use Rattle.flat_model.specs.declared.answer.Answer.TheVariants.{NoEnt, NotDir}
use Rattle.flat_model.specs.Volume.{RunSub}
use Rattle.flat_model.specs.Walk.{walk}
use Rattle.flat_sub.specs.View.{sub_view}
use Rattle.flat_sub.proofs.Makings.{link_missing, link_blocked, link_root, link_taken}
use Rattle.flat_sub.proofs.sub.FlatSub.link.Goals as goal

pub returns-in-Missing-clause-done : goal.returns-in-Missing-clause-done
returns-in-Missing-clause-done c = link_missing (sub_view c.args.self.now) c.args.old.now c.args.new.now c.in-Missing.ensures

pub returns-then-is_absent-clause-done : goal.returns-then-is_absent-clause-done
returns-then-is_absent-clause-done c =
    let run : RunSub = sub_view c.args.self.now in
    let absent = sym (c.is_absent.ensures run.sub.names (walk run.sub c.args.old.now) c.walk-from.ensures) ∙ c.if-is_absent.true in
    link_blocked run c.args.old.now c.args.new.now c.in-Blocked.ensures NoEnt (sym (ap (λ b. cond b NoEnt NotDir) absent))

pub returns-else-is_absent-clause-done : goal.returns-else-is_absent-clause-done
returns-else-is_absent-clause-done c =
    let run : RunSub = sub_view c.args.self.now in
    let absent = sym (c.is_absent.ensures run.sub.names (walk run.sub c.args.old.now) c.walk-from.ensures) ∙ c.if-is_absent.false in
    link_blocked run c.args.old.now c.args.new.now c.in-Blocked.ensures NotDir (sym (ap (λ b. cond b NoEnt NotDir) absent))

pub returns-in-Root-clause-done : goal.returns-in-Root-clause-done
returns-in-Root-clause-done c =
    let run : RunSub = sub_view c.args.self.now in
    link_root run c.args.old.now c.args.new.now c.in-Root.ensures c.taken_answer.result (c.taken_answer.ensures run.sub.names (walk run.sub c.args.old.now) c.walk-from.ensures)

pub returns-in-Taken-clause-done : goal.returns-in-Taken-clause-done
returns-in-Taken-clause-done c =
    let run : RunSub = sub_view c.args.self.now in
    let taken = c.in-Taken.ensures in
    link_taken run c.args.old.now c.args.new.now c.in-Taken.dir _ taken.name taken.slot c.taken_answer-in-Taken.result (c.taken_answer-in-Taken.ensures run.sub.names (walk run.sub c.args.old.now) c.walk-from.ensures)
