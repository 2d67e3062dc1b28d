use Rattle.volume_image.proofs.Standing.{reach_none_twice, reach_all_allowed, reach_leaves_room}
use Rattle.volume_image.proofs.laws.stands.reach_is_sound.Goals as goal

pub returns : goal.returns
returns c = record { none_twice = reach_none_twice; allowed = reach_all_allowed; room = reach_leaves_room }
