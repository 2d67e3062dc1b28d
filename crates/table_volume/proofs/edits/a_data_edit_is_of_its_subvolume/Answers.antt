use Rattle.table_volume.proofs.Editing.{data_edit, data_edit_tree, data_edit_once}
use Rattle.table_volume.proofs.edits.a_data_edit_is_of_its_subvolume.Goals as goal

pub returns-clause-edit : goal.returns-clause-edit
returns-clause-edit c = data_edit

pub returns-clause-tree : goal.returns-clause-tree
returns-clause-tree c = data_edit_tree

pub returns-clause-once : goal.returns-clause-once
returns-clause-once c = data_edit_once
