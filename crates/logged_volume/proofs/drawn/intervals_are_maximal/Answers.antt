use Rattle.logged_volume.proofs.Gaps.{gaps_with_has}
use Rattle.logged_volume.proofs.Intervals.{gaps_are_maximal}
use Rattle.logged_volume.proofs.drawn.intervals_are_maximal.Goals as goal

pub returns-clause-maximal : goal.returns-clause-maximal
returns-clause-maximal c = gaps_are_maximal

pub returns-clause-each : goal.returns-clause-each
returns-clause-each c = gaps_with_has
