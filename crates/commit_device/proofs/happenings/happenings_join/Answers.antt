use Rattle.commit_device.proofs.Joined.{admissible_joined, behind_joined, calls_joined, commits_joined, images_apart, images_joined, no_commit}
use Rattle.commit_device.proofs.Told.{told_joined}
use Rattle.commit_device.proofs.happenings.happenings_join.Goals as goal

pub returns-clause-behind : goal.returns-clause-behind
returns-clause-behind g c = behind_joined

pub returns-clause-admissible : goal.returns-clause-admissible
returns-clause-admissible g c = admissible_joined

pub returns-clause-calls : goal.returns-clause-calls
returns-clause-calls g c = calls_joined

pub returns-clause-told : goal.returns-clause-told
returns-clause-told g c = told_joined

pub returns-clause-commits : goal.returns-clause-commits
returns-clause-commits g c = commits_joined g.S.Standing.stands

pub returns-clause-no_commit : goal.returns-clause-no_commit
returns-clause-no_commit g c = no_commit g.S.Standing.stands

pub returns-clause-images : goal.returns-clause-images
returns-clause-images g c = images_joined g.S.Standing.stands

pub returns-clause-images_apart : goal.returns-clause-images_apart
returns-clause-images_apart g c = images_apart g.S.Standing.stands
