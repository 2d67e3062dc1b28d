-- A failed end was tried where the write of the superblock failed, and else it wasn't.
use Rattle.volume_core.proofs.Ended.{not_tried, was_tried}
use Rattle.volume_core.proofs.ending.end_failed.Goals as goal

pub keep_tried-requires-clause-has : goal.keep_tried-requires-clause-has
keep_tried-requires-clause-has c =
    let has = c.requires.has in
    (has.0, has.1, has.2, has.3, was_tried has.2 c.args.tried c.if-tried.true has.4)

pub take_back-requires-clause-has : goal.take_back-requires-clause-has
take_back-requires-clause-has c =
    let has = c.requires.has in
    (has.0, has.1, has.2, has.3, not_tried has.2 c.args.tried c.if-tried.false has.4)

pub returns-then-tried-clause-keeps : goal.returns-then-tried-clause-keeps
returns-then-tried-clause-keeps c = λ image run scene next keeps failed ended.
    c.keep_tried.ensures.keeps image run scene next keeps (was_tried scene c.args.tried c.if-tried.true failed) ended

pub returns-else-tried-clause-keeps : goal.returns-else-tried-clause-keeps
returns-else-tried-clause-keeps c = λ image run scene next keeps failed ended.
    c.take_back.ensures.keeps image run scene next keeps (not_tried scene c.args.tried c.if-tried.false failed) ended
