use Rattle.commit_history.proofs.CallsOf.{answer_stays, finished_begins}
use Rattle.commit_history.proofs.calls.calls_have_one_answer.Goals as goal

pub returns-clause-stays : goal.returns-clause-stays
returns-clause-stays c state caller call event other answer is = answer_stays state caller call event answer is other

pub returns-clause-ends : goal.returns-clause-ends
returns-clause-ends c state call answer is = finished_begins state call answer is
