use Rattle.std.proofs.Common.{length, subst}
use Rattle.commit_device.specs.Calls.{AreTold, calls_of}
use Rattle.commit_device.proofs.Moments.{told_stand}
use Rattle.commit_images.specs.Admissible.{AreAdmissible}
use Rattle.commit_images.specs.Scene.{Scene, first_scene}
use Rattle.commit_images.proofs.Events.{each_stands, first_sound}
use Rattle.volume_image.specs.Stands.{Stands}
use Rattle.script_lines.proofs.Happening.{whole_stand}
use Rattle.script_lines.proofs.laws.images_of_a_run_stand.Goals as goal

pub returns : goal.returns
returns c = λ mounted held first before after coherent by begins holds run.
    let scene = first_scene held first in
    let each = each_stands Stands mounted (length mounted.image) coherent run.happenings scene (first_sound Stands mounted held first by)
    (subst (λ (s : Scene). AreAdmissible mounted s run.happenings) begins run.admissible) (whole_stand (length mounted.image) run.happenings run.commits) in
    told_stand Stands mounted.volume scene run.happenings before.told after.told run.added holds run.goes_on
    (subst (λ (s : Scene). AreTold (calls_of mounted.volume s run.happenings) run.added) begins run.told) each
