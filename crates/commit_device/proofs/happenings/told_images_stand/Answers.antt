use Rattle.commit_device.proofs.Moments.{told_stand}
use Rattle.commit_device.proofs.happenings.told_images_stand.Goals as goal

pub returns : goal.returns
returns g c = told_stand g.S.Standing.stands
