use Rattle.commit_history.proofs.AllHold.{state_coherent, states_agree_always}
use Rattle.commit_history.proofs.survival.states_agree.Goals as goal

pub returns-clause-coherent : goal.returns-clause-coherent
returns-clause-coherent c volume events whole legal id sub is = state_coherent volume whole events legal id sub is

pub returns-clause-agree : goal.returns-clause-agree
returns-clause-agree c volume events early late whole legal id one two a b = states_agree_always volume whole events legal early late id one two a b
