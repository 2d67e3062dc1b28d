use Rattle.run_history.proofs.Room.{first_room}
use Rattle.run_history.proofs.recorder.Recorder.new.Goals as goal

pub returns-clause-has : goal.returns-clause-has
returns-clause-has g c = λ mounted held commit h. record {
  core = h;
  events = c.requires.empty;
  room = first_room mounted.volume c.args.run.spare;
}
