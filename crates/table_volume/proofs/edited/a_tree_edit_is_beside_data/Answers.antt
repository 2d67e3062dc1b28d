use Rattle.table_volume.proofs.SubEdits.{beside_edit, beside_once, beside_alike}
use Rattle.table_volume.proofs.edited.a_tree_edit_is_beside_data.Goals as goal

pub returns-clause-edit : goal.returns-clause-edit
returns-clause-edit c = beside_edit

pub returns-clause-once : goal.returns-clause-once
returns-clause-once c = beside_once

pub returns-clause-alike : goal.returns-clause-alike
returns-clause-alike c = beside_alike
