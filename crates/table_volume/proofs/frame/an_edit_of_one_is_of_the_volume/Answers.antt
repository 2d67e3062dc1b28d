use Rattle.table_volume.proofs.Volumes.{volume_given}
use Rattle.table_volume.proofs.frame.an_edit_of_one_is_of_the_volume.Goals as goal

pub returns : goal.returns
returns c = volume_given
