use Rattle.table_volume.proofs.Changes.{changes_join}
use Rattle.table_volume.proofs.change.changes_join.Goals as goal

pub returns : goal.returns
returns c = changes_join
