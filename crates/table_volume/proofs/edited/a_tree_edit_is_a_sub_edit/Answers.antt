use Rattle.table_volume.proofs.SubEdits.{tree_as_sub, tree_gives}
use Rattle.table_volume.proofs.edited.a_tree_edit_is_a_sub_edit.Goals as goal

pub returns-clause-edit : goal.returns-clause-edit
returns-clause-edit c = tree_as_sub

pub returns-clause-gives : goal.returns-clause-gives
returns-clause-gives c = tree_gives
