use Rattle.logged_volume.proofs.Replays.{replay_is}
use Rattle.logged_volume.proofs.WeightSteps.{made_holds, made_coherent, made_weight}
use Rattle.logged_volume.proofs.weights.steps_bound_logs.Goals as goal

pub returns-clause-coherent : goal.returns-clause-coherent
returns-clause-coherent c = made_coherent

pub returns-clause-log : goal.returns-clause-log
returns-clause-log c committed steps logged log made = (made_holds committed steps logged log made).0

pub returns-clause-replay : goal.returns-clause-replay
returns-clause-replay c committed steps logged log made =
    replay_is committed logged log (made_coherent committed steps logged log made) (made_holds committed steps logged log made).0

pub returns-clause-items : goal.returns-clause-items
returns-clause-items c = made_weight
