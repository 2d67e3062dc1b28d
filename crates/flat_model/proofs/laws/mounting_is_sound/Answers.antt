use Rattle.flat_model.proofs.Histories.{mounted_sound, volume_of_mounted}
use Rattle.flat_model.proofs.laws.mounting_is_sound.Goals as goal

pub returns-clause-sound : goal.returns-clause-sound
returns-clause-sound c = mounted_sound

pub returns-clause-same : goal.returns-clause-same
returns-clause-same c = volume_of_mounted
