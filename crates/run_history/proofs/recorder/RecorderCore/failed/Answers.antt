use Rattle.commit_core.specs.Coming.{state_of}
use Rattle.run_history.proofs.Behind.{has_come}
use Rattle.run_history.proofs.Room.{failed_room}
use Rattle.run_history.proofs.recorder.RecorderCore.failed.Goals as goal

pub returns-clause-came : goal.returns-clause-came
returns-clause-came g c = λ mounted scene h holds failed.
    has_come _ _ c.args.self.now.run c.push.new.self mounted scene _ _ h (c.failed.ensures.came mounted scene h.core holds failed) c.push.ensures.events
    (failed_room (state_of mounted scene) c.args.caller c.args.tried _ _ h.room holds c.push.ensures.spare)
