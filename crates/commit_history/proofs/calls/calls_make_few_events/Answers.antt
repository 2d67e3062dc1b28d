use Rattle.commit_history.proofs.CallsOf.{few_events}
use Rattle.commit_history.proofs.calls.calls_make_few_events.Goals as goal

pub returns : goal.returns
returns c volume events caller ruled = few_events volume events caller ruled
