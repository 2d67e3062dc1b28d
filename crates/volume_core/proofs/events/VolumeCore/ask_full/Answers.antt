use Rattle.std.proofs.Common.{refl}
use Rattle.commit_core.specs.Coming.{state_of}
use Rattle.volume_core.proofs.Came.{ask_comes, on_err, same_sealed, with_kept}
use Rattle.volume_core.proofs.JustSealed.{more_just}
use Rattle.volume_core.proofs.events.VolumeCore.ask_full.Goals as goal

pub returns-in_err-reserve-clause-memory : goal.returns-in_err-reserve-clause-memory
returns-in_err-reserve-clause-memory c = λ mounted scene h.
    let old = c.args.self.now in
    on_err c.from_residual.result (with_kept old c.reserve.new.self mounted scene (same_sealed old.kept c.reserve.new.self c.reserve.ensures.more) (more_just old.kept c.reserve.new.self c.reserve.ensures.more)
    (c.reserve.ensures.keeps mounted.image (state_of mounted scene).current scene h.kept) h)

pub returns-clause-came : goal.returns-clause-came
returns-clause-came c = λ mounted scene h.
    let old = c.args.self.now in
    record {
      may = (tt, refl, tt);
      has = ask_comes old _ mounted scene h (same_sealed old.kept c.reserve.new.self c.reserve.ensures.more) refl refl refl c.args.caller
          (c.reserve.ensures.keeps mounted.image (state_of mounted scene).current scene h.kept) (c.asked.ensures mounted.volume scene.events h.callers);
    }
