use Rattle.table_volume.proofs.Editing.{state_alike, state_given, state_reach}
use Rattle.table_volume.proofs.frame.an_edit_keeps_another_state.Goals as goal

pub returns-clause-gives : goal.returns-clause-gives
returns-clause-gives c = state_given

pub returns-clause-alike : goal.returns-clause-alike
returns-clause-alike c = state_alike

pub returns-clause-reach : goal.returns-clause-reach
returns-clause-reach c = state_reach
