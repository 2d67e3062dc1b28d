use Rattle.commit_laws.proofs.Covered.{covered_duty}
use Rattle.commit_laws.proofs.answers.covered_calls_need_no_commit.Goals as goal

pub returns : goal.returns
returns c state call is_covered = covered_duty state call is_covered
