use Rattle.std.proofs.Common.{arith}
use Rattle.commit_core.specs.Coming.{state_of}
use Rattle.run_history.proofs.Behind.{has_come, with_room}
use Rattle.run_history.proofs.Room.{asked_room}
use Rattle.run_history.proofs.recorder.RecorderCore.ask_full.Goals as goal

pub returns-clause-came : goal.returns-clause-came
returns-clause-came g c = λ mounted scene h.
    let roomy = with_room _ c.args.self.now.run c.room.new.self mounted scene h c.room.ensures.events c.room.ensures.spare in
    let room = c.in_ok-room.ensures.room in
    let less = c.push.ensures.spare in
    has_come _ _ c.room.new.self c.push.new.self mounted scene _ _ roomy (c.in_ok-ask_full.ensures.came mounted scene h.core) c.push.ensures.events
    (asked_room (state_of mounted scene) c.args.caller _ _ roomy.room c.requires.caller (omega (arith, room, less)))
