use Rattle.std.proofs.Common.{[], ◌∷◌, ◌++◌, ap, ◌∙◌, arith}
use Rattle.commit_history.specs.declared.event.Event.{Event}
use Rattle.commit_core.specs.Coming.{state_of}
use Rattle.run_history.proofs.Behind.{has_come, same_op, with_room}
use Rattle.run_history.proofs.Room.{operated_room}
use Rattle.run_history.proofs.recorder.RecorderCore.op.Goals as goal

pub returns-clause-came : goal.returns-clause-came
returns-clause-came g c = λ mounted scene h.
    let roomy = with_room _ c.args.self.now.run c.room.new.self mounted scene h c.room.ensures.events c.room.ensures.spare in
    let done = c.in_ok-end.ensures.came mounted scene h.core in
    let room = c.in_ok-room.ensures.room in
    let less = c.push.ensures.spare in
    let same = same_op c.args.caller c.in_ok-copy.copy c.args.op.now c.args.again c.show_end.result _ c.made.result _ c.in_ok-copy.ensures c.show_end.ensures c.made.ensures in
    let pushed = c.push.ensures.events ∙ ap (λ (e : Event). c.room.new.self.events ++ e ∷ []) same in
    record {
      came = has_come _ _ c.room.new.self c.push.new.self mounted scene _ _ roomy done.came pushed
          (operated_room (state_of mounted scene) c.args.caller c.args.op.now c.args.again _ _ _ _ roomy.room c.requires.caller (omega (arith, room, less)));
      said = done.said;
    }
