use Rattle.std.proofs.Common.{refl}
use Rattle.commit_core.specs.Coming.{state_of}
use Rattle.volume_core.proofs.Came.{failed_comes}
use Rattle.volume_core.proofs.events.VolumeCore.failed.Goals as goal

pub returns-clause-came : goal.returns-clause-came
returns-clause-came c = λ mounted scene h holds failed.
    failed_comes c.args.self.now _ mounted scene h c.end_failed.ensures.rest.sealed c.requires.out.parts refl c.args.caller c.args.tried failed holds refl
    (λ next ended. c.end_failed.ensures.keeps mounted.image (state_of mounted scene).current scene next h.kept failed ended)
    (c.failed.ensures mounted.volume scene.events c.args.tried holds h.callers)
