use Rattle.std.proofs.Common.{refl}
use Rattle.commit_blocks.proofs.Ends.{ended_now, is_ended_now}
use Rattle.volume_core.proofs.Accounted.{last_in_use, only_last, volume_or_reached}
use Rattle.volume_core.proofs.Few.{few_in_use}
use Rattle.volume_core.proofs.ending.end_done.Goals as goal

pub returns-clause-in_use : goal.returns-clause-in_use
returns-clause-in_use c = λ image run scene keeps written none.
    last_in_use c.finish.new.self image run (ended_now scene) (c.finish.ensures.keeps image run scene (ended_now scene) keeps written (is_ended_now scene)) c.finish.ensures.rest.sealed
    (only_last c.args.kept.now c.finish.new.self c.finish.ensures.let_go none)

pub returns-clause-reached : goal.returns-clause-reached
returns-clause-reached c = λ image run scene keeps written commit there.
    volume_or_reached c.finish.new.self image run (ended_now scene) (c.finish.ensures.keeps image run scene (ended_now scene) keeps written (is_ended_now scene)) commit there c.finish.ensures.rest.sealed
    (c.finish.ensures.reached image run scene keeps written commit there)

pub returns-clause-few : goal.returns-clause-few
returns-clause-few c = λ image run scene keeps written just.
    let behind = c.finish.ensures.keeps image run scene (ended_now scene) keeps written (is_ended_now scene) in
    few_in_use c.args.kept.now c.finish.new.self image run scene (ended_now scene) keeps behind refl written c.finish.ensures.last c.finish.ensures.rest (just.roots c.finish.new.self.last c.finish.ensures.last)
    (last_in_use c.finish.new.self image run (ended_now scene) behind c.finish.ensures.rest.sealed (only_last c.args.kept.now c.finish.new.self c.finish.ensures.let_go just.let_go))
