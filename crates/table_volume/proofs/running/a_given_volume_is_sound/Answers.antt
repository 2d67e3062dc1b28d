use Rattle.table_volume.proofs.States.{volume_sound}
use Rattle.table_volume.proofs.running.a_given_volume_is_sound.Goals as goal

pub returns : goal.returns
returns c = volume_sound
