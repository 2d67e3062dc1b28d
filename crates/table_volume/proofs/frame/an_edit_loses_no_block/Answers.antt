use Rattle.table_volume.proofs.Editing.{none_lost}
use Rattle.table_volume.proofs.frame.an_edit_loses_no_block.Goals as goal

pub returns : goal.returns
returns c = none_lost
