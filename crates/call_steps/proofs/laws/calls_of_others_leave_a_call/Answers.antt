use Rattle.call_steps.proofs.Leaving.{call_stays, turn_stays}
use Rattle.call_steps.proofs.laws.calls_of_others_leave_a_call.Goals as goal

pub returns-clause-at : goal.returns-clause-at
returns-clause-at c mounted scene call event handed other at = call_stays mounted scene call event handed other at

pub returns-clause-turn : goal.returns-clause-turn
returns-clause-turn c mounted scene caller event handed other may = turn_stays mounted scene caller event handed other may
