use Rattle.commit_promises.proofs.SyncPromises.{sync_committed, sync_record, sync_names}
use Rattle.commit_promises.proofs.syncs.answered_syncs_survive.Goals as goal

pub returns-clause-committed : goal.returns-clause-committed
returns-clause-committed c volume front back caller coherent answered = sync_committed volume coherent front back caller answered

pub returns-clause-records : goal.returns-clause-records
returns-clause-records c volume front back caller id ino coherent answered = sync_record volume coherent front back caller answered id ino

pub returns-clause-names : goal.returns-clause-names
returns-clause-names c volume front back caller id ino coherent answered = sync_names volume coherent front back caller answered id ino
