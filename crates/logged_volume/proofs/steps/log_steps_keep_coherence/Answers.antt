use Rattle.logged_volume.proofs.BothForms.{step_coherent}
use Rattle.logged_volume.proofs.steps.log_steps_keep_coherence.Goals as goal

pub returns-clause-coherent : goal.returns-clause-coherent
returns-clause-coherent c current logged target datasync room step none = (step_coherent current logged target datasync room step none).coherent

pub returns-clause-agrees : goal.returns-clause-agrees
returns-clause-agrees c current logged target datasync room step none = (step_coherent current logged target datasync room step none).agrees

pub returns-clause-common : goal.returns-clause-common
returns-clause-common c current logged target datasync room step none = (step_coherent current logged target datasync room step none).common
