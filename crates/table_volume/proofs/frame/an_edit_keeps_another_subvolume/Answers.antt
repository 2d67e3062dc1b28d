use Rattle.table_volume.proofs.Editing.{other_given, other_reach}
use Rattle.table_volume.proofs.frame.an_edit_keeps_another_subvolume.Goals as goal

pub returns-clause-gives : goal.returns-clause-gives
returns-clause-gives c = other_given

pub returns-clause-reach : goal.returns-clause-reach
returns-clause-reach c = other_reach
