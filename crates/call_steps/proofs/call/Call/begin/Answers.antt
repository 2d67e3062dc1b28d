use Rattle.std.proofs.Common.{◌≡◌, None, length}
use Rattle.commit_room.specs.Room.{free_blocks}
use Rattle.call_steps.proofs.Turns.{finishes, moves, new_is_over, op_answered, op_short, sync_asked}
use Rattle.call_steps.proofs.call.Call.begin.Goals as goal

pub returns-in-Answered-clause-stepped : goal.returns-in-Answered-clause-stepped
returns-in-Answered-clause-stepped g c mounted scene has may =
    let free = free_blocks (g.C.Core.size c.args.core.now) (length (g.C.Core.in_use c.args.core.now)) in
    finishes (g.C.Core.has c.op.new.self) (c.op.new.self ≡ c.args.core.now) mounted scene c.args.self.now c.finish.new.self None free (g.C.Core.made c.op.new.self) c.in-Answered.answer c.finish.result c.finish.ensures.new c.finish.ensures.answer
    (op_answered (g.C.Core.has c.op.new.self) mounted scene c.args.self.now may.orderly may.at c.in-Op.op c.in-Op.is c.requires.new may.back (new_is_over mounted scene c.args.self.now may.at c.requires.new)
    c.in_ok-answer-in-Op.field-0 (g.C.Core.made c.op.new.self) c.in-Answered.answer free (c.in_ok-answer-in-Op.ensures.came mounted scene has) c.in-Answered.is)

pub returns-in-Short-clause-stepped : goal.returns-in-Short-clause-stepped
returns-in-Short-clause-stepped g c mounted scene has may =
    let free = free_blocks (g.C.Core.size c.args.core.now) (length (g.C.Core.in_use c.args.core.now)) in
    moves (g.C.Core.has c.op.new.self) (c.op.new.self ≡ c.args.core.now) mounted scene c.args.self.now c.wait.new.self None free (g.C.Core.made c.op.new.self) c.wait.result c.wait.ensures.new c.wait.ensures.moved
    (op_short (g.C.Core.has c.op.new.self) mounted scene c.args.self.now may.orderly may.at c.in-Op.op c.in-Op.is c.requires.new may.back (new_is_over mounted scene c.args.self.now may.at c.requires.new)
    c.in_ok-answer-in-Op.field-0 (g.C.Core.made c.op.new.self) c.in-Short.free c.in-Short.need (c.in_ok-answer-in-Op.ensures.came mounted scene has) c.in-Short.is)

pub returns-in_ok-ask_full-in-Sync-clause-stepped : goal.returns-in_ok-ask_full-in-Sync-clause-stepped
returns-in_ok-ask_full-in-Sync-clause-stepped g c mounted scene has may =
    let free = free_blocks (g.C.Core.size c.args.core.now) (length (g.C.Core.in_use c.args.core.now)) in
    moves (g.C.Core.has c.ask_full.new.self) (c.ask_full.new.self ≡ c.args.core.now) mounted scene c.args.self.now c.wait-in-Sync.new.self None free (g.C.Core.made c.ask_full.new.self) c.wait-in-Sync.result c.wait-in-Sync.ensures.new c.wait-in-Sync.ensures.moved
    (sync_asked (g.C.Core.has c.ask_full.new.self) mounted scene c.args.self.now may.orderly may.at c.in-Sync.is c.requires.new may.back (new_is_over mounted scene c.args.self.now may.at c.requires.new) (c.in_ok-ask_full-in-Sync.ensures.came mounted scene has))
