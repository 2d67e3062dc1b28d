use Rattle.commit_core.specs.Coming.{state_of}
use Rattle.run_history.proofs.Behind.{has_come}
use Rattle.run_history.proofs.Room.{sealed_room}
use Rattle.run_history.proofs.recorder.RecorderCore.seal_full.Goals as goal

pub returns-clause-sealed : goal.returns-clause-sealed
returns-clause-sealed g c = λ mounted scene h may.
    let sealed = c.seal_full-batch.ensures.sealed mounted scene h.core may in
    record {
      commit = sealed.commit;
      superblock = sealed.superblock;
      came = has_come _ _ c.args.self.now.run c.push.new.self mounted scene _ _ h sealed.came c.push.ensures.events
          (sealed_room (state_of mounted scene) c.args.caller _ _ h.room may c.push.ensures.spare);
      of_commit = sealed.of_commit;
      ready = sealed.ready;
      stands = sealed.stands;
    }
