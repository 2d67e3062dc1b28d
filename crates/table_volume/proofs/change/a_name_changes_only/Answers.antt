use Rattle.table_volume.proofs.Changes.{name_added, name_removed}
use Rattle.table_volume.proofs.change.a_name_changes_only.Goals as goal

pub returns-clause-added : goal.returns-clause-added
returns-clause-added c = name_added

pub returns-clause-removed : goal.returns-clause-removed
returns-clause-removed c = name_removed
