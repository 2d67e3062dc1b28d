use Rattle.commit_laws.proofs.Covered.{own_same, stage_stays, covered_stays, root_covers, full_covers}
use Rattle.commit_laws.proofs.answers.answers_come_from_own_events.Goals as goal

pub returns-clause-own : goal.returns-clause-own
returns-clause-own c one two caller call event same = own_same one two caller call event same

pub returns-clause-other : goal.returns-clause-other
returns-clause-other c state caller call event other = stage_stays state caller call event other

pub returns-clause-once : goal.returns-clause-once
returns-clause-once c state caller call event other is_covered = covered_stays state caller call event other is_covered

pub returns-clause-root : goal.returns-clause-root
returns-clause-root c state caller by sub number part call other stage cover = root_covers state caller by sub number part call other stage cover

pub returns-clause-full : goal.returns-clause-full
returns-clause-full c state caller by sub number part call other stage cover = full_covers state caller by sub number part call other stage cover
