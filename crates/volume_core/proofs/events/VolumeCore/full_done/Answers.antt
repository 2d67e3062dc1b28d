use Rattle.std.proofs.Common.{refl}
use Rattle.commit_core.specs.Coming.{state_of}
use Rattle.volume_core.proofs.Came.{done_comes, done_few}
use Rattle.volume_core.proofs.events.VolumeCore.full_done.Goals as goal

pub returns-clause-came : goal.returns-clause-came
returns-clause-came c = λ mounted scene h holds written.
    done_comes c.args.self.now _ mounted scene h c.end_done.ensures.rest.sealed c.requires.out.parts refl c.args.caller written holds refl
    (λ next ended. c.end_done.ensures.keeps mounted.image (state_of mounted scene).current scene next h.kept written ended)
    (c.done.ensures mounted.volume scene.events holds h.callers)

pub returns-clause-few : goal.returns-clause-few
returns-clause-few c = λ mounted scene h holds written just.
    done_few mounted scene c.args.caller _ (c.end_done.ensures.few mounted.image (state_of mounted scene).current scene h.kept written (h.just c.args.caller just))
