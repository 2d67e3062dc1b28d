use Rattle.table_volume.proofs.Giving.{gives_by_bytes, read_sub}
use Rattle.table_volume.proofs.gives.giving_is_by_bytes.Goals as goal

pub returns-clause-gives : goal.returns-clause-gives
returns-clause-gives c = gives_by_bytes

pub returns-clause-reach : goal.returns-clause-reach
returns-clause-reach c = λ old new tree h. (read_sub old new tree h).reach_same
