use Rattle.commit_logs.proofs.Kept.{durable_is_replayed, sealed_is_replayed}
use Rattle.commit_logs.proofs.logs.sealed_logs_are_replayed.Goals as goal

pub returns-clause-durable : goal.returns-clause-durable
returns-clause-durable c volume events kept id log coherent legal written has = durable_is_replayed volume coherent events kept id log legal written has

pub returns-clause-sealed : goal.returns-clause-sealed
returns-clause-sealed c volume events kept id number log sub coherent legal written has low high at = sealed_is_replayed volume coherent events kept id log legal written has number sub low high at
