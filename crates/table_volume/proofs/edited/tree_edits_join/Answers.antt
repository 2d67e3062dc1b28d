use Rattle.table_volume.proofs.SubEdits.{tree_joined, tree_nothing, tree_more}
use Rattle.table_volume.proofs.edited.tree_edits_join.Goals as goal

pub returns-clause-join : goal.returns-clause-join
returns-clause-join c = tree_joined

pub returns-clause-nothing : goal.returns-clause-nothing
returns-clause-nothing c = tree_nothing

pub returns-clause-more : goal.returns-clause-more
returns-clause-more c = tree_more
