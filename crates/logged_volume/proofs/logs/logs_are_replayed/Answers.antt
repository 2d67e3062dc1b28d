use Rattle.logged_volume.proofs.Replays.{replay_is, log_accepted}
use Rattle.logged_volume.proofs.logs.logs_are_replayed.Goals as goal

pub returns-clause-replay : goal.returns-clause-replay
returns-clause-replay c = replay_is

pub returns-clause-accepted : goal.returns-clause-accepted
returns-clause-accepted c committed logged log coherent agree is = log_accepted committed logged log coherent is agree
