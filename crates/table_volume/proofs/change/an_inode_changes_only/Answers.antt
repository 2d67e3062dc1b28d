use Rattle.table_volume.proofs.Changes.{inode_removed, record_written}
use Rattle.table_volume.proofs.change.an_inode_changes_only.Goals as goal

pub returns-clause-written : goal.returns-clause-written
returns-clause-written c = record_written

pub returns-clause-removed : goal.returns-clause-removed
returns-clause-removed c = inode_removed
