use Rattle.call_steps.proofs.Wanting.{ends_holds, holder_ends}
use Rattle.call_steps.proofs.laws.callers_end_their_full_commits.Goals as goal

pub returns : goal.returns
returns c mounted scene caller orderly = (holder_ends mounted scene orderly caller, ends_holds mounted scene orderly caller)
