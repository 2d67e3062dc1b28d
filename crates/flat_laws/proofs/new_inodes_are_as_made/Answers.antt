use Rattle.flat_laws.proofs.Advances.{step_creates}
use Rattle.flat_laws.proofs.new_inodes_are_as_made.Goals as goal

pub returns : goal.returns
returns c run op indexes = step_creates run op indexes
