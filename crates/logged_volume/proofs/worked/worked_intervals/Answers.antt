use Rattle.std.proofs.Common.{refl}
use Rattle.logged_volume.proofs.worked.worked_intervals.Goals as goal

pub returns-clause-hole : goal.returns-clause-hole
returns-clause-hole c = refl

pub returns-clause-both_sides : goal.returns-clause-both_sides
returns-clause-both_sides c = refl

pub returns-clause-above : goal.returns-clause-above
returns-clause-above c = refl
