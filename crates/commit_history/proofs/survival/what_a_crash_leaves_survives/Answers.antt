use Rattle.commit_history.proofs.AllHold.{all_survive}
use Rattle.commit_history.proofs.survival.what_a_crash_leaves_survives.Goals as goal

pub returns : goal.returns
returns c volume events whole legal left possible = all_survive volume whole events legal left possible
