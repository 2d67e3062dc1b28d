use Rattle.log_root.proofs.Ranges.{all_ids, all_roots}
use Rattle.log_root.proofs.laws.entries_read_back.Goals as goal

pub returns-clause-all : goal.returns-clause-all
returns-clause-all c = all_roots

pub returns-clause-ids : goal.returns-clause-ids
returns-clause-ids c = all_ids
