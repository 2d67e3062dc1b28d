use Rattle.commit_laws.proofs.Going.{not_stuck}
use Rattle.commit_laws.proofs.waiting.no_state_is_stuck.Goals as goal

pub returns : goal.returns
returns c volume events caller coherent legal ruled unfinished = not_stuck volume coherent events legal ruled caller unfinished
