use Rattle.std.proofs.Common.{◌≡◌, None, length}
use Rattle.flat_model.specs.declared.answer.Answer.TheVariants as answers
use Rattle.commit_room.specs.Room.{free_blocks}
use Rattle.call_steps.proofs.Turns.{again_answered, again_short, finishes, waiting_wants}
use Rattle.call_steps.proofs.call.Call.end_covered.Goals as goal

pub returns-in-Answered-clause-stepped : goal.returns-in-Answered-clause-stepped
returns-in-Answered-clause-stepped g c mounted scene has may covered =
    let free = free_blocks (g.C.Core.size c.args.core.now) (length (g.C.Core.in_use c.args.core.now)) in
    finishes (g.C.Core.has c.op.new.self) (c.op.new.self ≡ c.args.core.now) mounted scene c.args.self.now c.finish.new.self None free (g.C.Core.made c.op.new.self) c.in-Answered.answer c.finish.result c.finish.ensures.new c.finish.ensures.answer
    (again_answered (g.C.Core.has c.op.new.self) mounted scene c.args.self.now may.orderly may.at c.in-Op.op c.in-Op.is c.requires.wants may.back (waiting_wants mounted scene c.args.self.now may.at c.requires.wants) covered
    c.in_ok-answer-in-Op.field-0 (g.C.Core.made c.op.new.self) c.in-Answered.answer free (c.in_ok-answer-in-Op.ensures.came mounted scene has) c.in-Answered.is)

pub returns-in-Short-clause-stepped : goal.returns-in-Short-clause-stepped
returns-in-Short-clause-stepped g c mounted scene has may covered =
    let free = free_blocks (g.C.Core.size c.args.core.now) (length (g.C.Core.in_use c.args.core.now)) in
    finishes (g.C.Core.has c.op.new.self) (c.op.new.self ≡ c.args.core.now) mounted scene c.args.self.now c.finish-in-Short.new.self None free (g.C.Core.made c.op.new.self) (answers.NoSpace c.in-Short.free c.in-Short.need) c.finish-in-Short.result
    c.finish-in-Short.ensures.new c.finish-in-Short.ensures.answer
    (again_short (g.C.Core.has c.op.new.self) mounted scene c.args.self.now may.orderly may.at c.in-Op.op c.in-Op.is c.requires.wants may.back (waiting_wants mounted scene c.args.self.now may.at c.requires.wants) covered
    c.in_ok-answer-in-Op.field-0 (g.C.Core.made c.op.new.self) c.in-Short.free c.in-Short.need free (c.in_ok-answer-in-Op.ensures.came mounted scene has) c.in-Short.is
    (c.in_ok-answer-in-Op.ensures.short c.in-Short.free c.in-Short.need c.in-Short.is))
