use Rattle.logged_volume.proofs.LeastSets.{least_set_is_least, least_is_one}
use Rattle.logged_volume.proofs.drawn.drawn_set_is_least.Goals as goal

pub returns-clause-there : goal.returns-clause-there
returns-clause-there c = least_set_is_least

pub returns-clause-one : goal.returns-clause-one
returns-clause-one c = least_is_one
