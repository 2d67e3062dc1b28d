use Rattle.commit_laws.proofs.Going.{finished_holds_nothing, all_finished}
use Rattle.commit_laws.proofs.waiting.finished_calls_hold_nothing.Goals as goal

pub returns-clause-nothing : goal.returns-clause-nothing
returns-clause-nothing c volume events caller coherent legal ruled finished = finished_holds_nothing volume coherent events legal ruled caller finished

pub returns-clause-unwanted : goal.returns-clause-unwanted
returns-clause-unwanted c volume events coherent legal ruled finished = all_finished volume coherent events legal ruled finished
