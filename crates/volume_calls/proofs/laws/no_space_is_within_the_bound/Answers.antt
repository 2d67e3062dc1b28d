use Rattle.volume_calls.proofs.NoSpace.{no_space}
use Rattle.volume_calls.proofs.laws.no_space_is_within_the_bound.Goals as goal

pub returns : goal.returns
returns c = λ mounted caller op free needed before after called. no_space mounted caller op free needed before after called
