use Rattle.commit_images.proofs.FoundBy.{found_is_durable}
use Rattle.commit_images.proofs.images.what_each_crash_leaves_is_durable.Goals as goal

pub returns : goal.returns
returns g c mounted held first by = found_is_durable g.S.Standing.stands mounted held first by
