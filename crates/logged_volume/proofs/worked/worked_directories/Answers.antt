use Rattle.std.proofs.Common.{refl}
use Rattle.logged_volume.specs.Agreement.{do_names_differ}
use Rattle.logged_volume.specs.Drawn.{dirs_above}
use Rattle.logged_volume.specs.Numbers.{reached}
use Rattle.logged_volume.proofs.worked.worked_directories.Goals as goal

pub returns-clause-above : goal.returns-clause-above
unfolding dirs_above reached
returns-clause-above c = refl

pub returns-clause-upper : goal.returns-clause-upper
unfolding do_names_differ
returns-clause-upper c = refl

pub returns-clause-lower : goal.returns-clause-lower
unfolding do_names_differ
returns-clause-lower c = refl

pub returns-clause-between : goal.returns-clause-between
unfolding do_names_differ
returns-clause-between c = refl

pub returns-clause-file : goal.returns-clause-file
unfolding do_names_differ
returns-clause-file c = refl
