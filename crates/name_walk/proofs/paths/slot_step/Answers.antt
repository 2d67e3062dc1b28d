use Rattle.std.proofs.Common.{ap}
use Rattle.flat_model.specs.Walk.{AtSlot}
use Rattle.name_walk.proofs.paths.slot_step.Goals as goal

pub returns-in-Some : goal.returns-in-Some
returns-in-Some c = λ sub given.
    let is = c.in-Some.ensures sub given in
    record { is = is; slot = ap (AtSlot c.args.dir c.args.name.now) is.is.there }
