use Rattle.commit_device.proofs.Told.{left_by_both}
use Rattle.commit_device.proofs.happenings.held_images_are_left.Goals as goal

pub returns : goal.returns
returns c = left_by_both
