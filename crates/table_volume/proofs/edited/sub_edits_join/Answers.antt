use Rattle.table_volume.proofs.SubEdits.{sub_joined, sub_nothing, sub_more}
use Rattle.table_volume.proofs.edited.sub_edits_join.Goals as goal

pub returns-clause-join : goal.returns-clause-join
returns-clause-join c = sub_joined

pub returns-clause-nothing : goal.returns-clause-nothing
returns-clause-nothing c = sub_nothing

pub returns-clause-more : goal.returns-clause-more
returns-clause-more c = sub_more
