use Rattle.logged_volume.proofs.Intervals.{stranded_is_least, none_is_stranded}
use Rattle.logged_volume.proofs.drawn.stranded_directory_is_least.Goals as goal

pub returns-clause-least : goal.returns-clause-least
returns-clause-least c = stranded_is_least

pub returns-clause-none : goal.returns-clause-none
returns-clause-none c = none_is_stranded
