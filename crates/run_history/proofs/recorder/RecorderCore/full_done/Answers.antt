use Rattle.commit_core.specs.Coming.{state_of}
use Rattle.run_history.proofs.Behind.{has_come}
use Rattle.run_history.proofs.Room.{done_room}
use Rattle.run_history.proofs.recorder.RecorderCore.full_done.Goals as goal

pub returns-clause-came : goal.returns-clause-came
returns-clause-came g c = λ mounted scene h holds written.
    has_come _ _ c.args.self.now.run c.push.new.self mounted scene _ _ h (c.full_done.ensures.came mounted scene h.core holds written) c.push.ensures.events
    (done_room (state_of mounted scene) c.args.caller _ _ h.room holds c.push.ensures.spare)

pub returns-clause-few : goal.returns-clause-few
returns-clause-few g c = λ mounted scene h holds written just. c.full_done.ensures.few mounted scene h.core holds written just
