use Rattle.logged_volume.proofs.Replays.{replay_is}
use Rattle.logged_volume.proofs.WeightSteps.{made_holds, made_coherent, made_weight}
use Rattle.commit_logs.proofs.Made.{logs_made}
use Rattle.commit_logs.proofs.logs.histories_write_logs.Goals as goal

pub returns-clause-made : goal.returns-clause-made
returns-clause-made c volume events logs id log coherent legal written has = logs_made volume coherent events logs id log legal written has

pub returns-clause-replay : goal.returns-clause-replay
returns-clause-replay c volume events logs id log coherent legal written has =
    let made = logs_made volume coherent events logs id log legal written has in
    replay_is log.committed log.logged (logs id) (made_coherent log.committed _ log.logged (logs id) made) (made_holds log.committed _ log.logged (logs id) made).0

pub returns-clause-items : goal.returns-clause-items
returns-clause-items c volume events logs id log coherent legal written has = made_weight log.committed _ log.logged (logs id) (logs_made volume coherent events logs id log legal written has)
