use Rattle.log_stands.proofs.Sound.{reach_once, reach_allowed, reach_room}
use Rattle.log_stands.proofs.stands.reach_by_log_is_sound.Goals as goal

pub returns : goal.returns
returns c = record { none_twice = reach_once; allowed = reach_allowed; room = reach_room }
