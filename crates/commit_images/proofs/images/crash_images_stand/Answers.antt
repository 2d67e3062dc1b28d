use Rattle.std.proofs.Common.{length}
use Rattle.commit_images.proofs.Events.{each_stands, first_sound}
use Rattle.commit_images.specs.Scene.{first_scene}
use Rattle.commit_images.proofs.images.crash_images_stand.Goals as goal

pub returns : goal.returns
returns g c mounted held first happenings coherent by may stand =
    each_stands g.S.Standing.stands mounted (length mounted.image) coherent happenings (first_scene held first) (first_sound g.S.Standing.stands mounted held first by) may stand
