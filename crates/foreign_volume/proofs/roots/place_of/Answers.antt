use Rattle.foreign_volume.proofs.Subs.{new_at, new_last, over_at, under_at}
use Rattle.foreign_volume.proofs.roots.place_of.Goals as goal

pub returns-then-sub-id-clause-over : goal.returns-then-sub-id-clause-over
returns-then-sub-id-clause-over c = λ sub d is least. over_at c.args.subs.now c.loop-place.place c.args.id _ d sub is c.loop-place-test.true c.if-sub-id.true c.loop-place.invariant least

pub returns-then-sub-id-clause-under : goal.returns-then-sub-id-clause-under
returns-then-sub-id-clause-under c = λ sub d is above. under_at c.args.subs.now c.loop-place.place c.args.id _ d sub is c.loop-place-test.true c.if-sub-id.true c.loop-place.invariant above

pub returns-then-id-sub-clause-new : goal.returns-then-id-sub-clause-new
returns-then-id-sub-clause-new c = λ sub is. new_at c.args.subs.now c.loop-place.place c.args.id _ sub is c.loop-place-test.true c.if-id-sub.true c.loop-place.invariant

pub returns-clause-new : goal.returns-clause-new
returns-clause-new c = λ sub is. new_last c.args.subs.now c.loop-place.place c.args.id sub is c.loop-place-test.false c.loop-place.invariant
