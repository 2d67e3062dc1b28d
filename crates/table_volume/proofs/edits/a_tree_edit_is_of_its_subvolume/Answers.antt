use Rattle.table_volume.proofs.Editing.{tree_edit, tree_edit_data, tree_edit_once}
use Rattle.table_volume.proofs.edits.a_tree_edit_is_of_its_subvolume.Goals as goal

pub returns-clause-edit : goal.returns-clause-edit
returns-clause-edit c = tree_edit

pub returns-clause-files : goal.returns-clause-files
returns-clause-files c = tree_edit_data

pub returns-clause-once : goal.returns-clause-once
returns-clause-once c = tree_edit_once
