use Rattle.commit_promises.proofs.Promises.{acknowledged_once_answered}
use Rattle.commit_promises.proofs.fsyncs.answered_fsyncs_are_acknowledged.Goals as goal

pub returns : goal.returns
returns c volume front back caller sub ino end datasync old new answer coherent answered durable has there =
    acknowledged_once_answered volume coherent caller sub ino datasync front back end old new answer answered durable has there
