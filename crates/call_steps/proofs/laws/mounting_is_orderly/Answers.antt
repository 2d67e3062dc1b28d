use Rattle.call_steps.proofs.Leaving.{mount_free, mount_orderly}
use Rattle.call_steps.proofs.laws.mounting_is_orderly.Goals as goal

pub returns-clause-orderly : goal.returns-clause-orderly
returns-clause-orderly c mounted held first coherent = mount_orderly mounted held first coherent

pub returns-clause-free : goal.returns-clause-free
returns-clause-free c mounted held first caller holds = mount_free mounted held first caller holds
