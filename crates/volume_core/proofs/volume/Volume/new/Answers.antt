use Rattle.std.proofs.Common.{refl}
use Rattle.flat_model.specs.Volume.{volume_of}
use Rattle.volume_core.proofs.Begun.{begun}
use Rattle.volume_core.proofs.volume.Volume.new.Goals as goal

pub returns-clause-has : goal.returns-clause-has
returns-clause-has c = λ image run held commit mount coherent is.
    begun _ image run (volume_of run) held commit is (c.in_ok-kept.ensures.keeps image run held commit mount) (c.new-3.ensures (volume_of run)) c.in_ok-kept.ensures.quiet refl c.in_ok-new.ensures
