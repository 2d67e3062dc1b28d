use Rattle.std.proofs.Common.{false, [], arith}
use Rattle.std.specs.BTreeSet.{contains}
use Rattle.std.specs.Ordering.{nat_cmp}
use Rattle.coherent_names.specs.declared.name.Name.{Name}
use Rattle.coherent_ways.proofs.Walks.{all_below, behind_other, one_more}
use Rattle.coherent_ways.proofs.walk.Walk.reach_below.Goals as goal

-- the name that a read beyond a list's end would give
unfoldable no_name : Name
no_name = record { found = record { ino = record { 0 = 0 }; dir = record { 0 = 0 }; index = 0; name = record { ref_ptr = (0, 0); now = [] } }; near = false }

pub returns-then-name-dir-clause-below : goal.returns-then-name-dir-clause-below
unfolding no_name
returns-then-name-dir-clause-below c =
    all_below c.args.names.now c.loop-place.self.queue.items c.first_of-place.result c.loop-place.place c.args.dir c.first_of-place.ensures.below c.loop-place.invariant.seen
    (behind_other c.args.names.now c.first_of-place.result c.loop-place.place c.args.dir no_name c.requires.sorted c.first_of-place.ensures.above c.loop-place.invariant.low c.loop-place-test.true c.if-name-dir.true)

pub loop-place-preserved : goal.loop-place-preserved
unfolding no_name
loop-place-preserved c =
    let after = one_more c.args.names.now (contains nat_cmp c.loop-place.self.reached) (contains nat_cmp c.reach.new.self.reached) c.args.self.now.queue.items c.loop-place.self.queue.items c.reach.new.self.queue.items
    c.first_of-place.result c.loop-place.place c.args.dir no_name c.loop-place-test.true c.loop-place.invariant.walk c.loop-place.invariant.extends c.loop-place.invariant.seen c.requires.inside c.if-name-dir.false
    c.in_ok-reach.ensures.queue c.in_ok-reach.ensures.set in
    record { low = omega arith; walk = after.walk; extends = after.extends; seen = after.seen }

pub returns-clause-below : goal.returns-clause-below
returns-clause-below c =
    all_below c.args.names.now c.loop-place.self.queue.items c.first_of-place.result c.loop-place.place c.args.dir c.first_of-place.ensures.below c.loop-place.invariant.seen
    (λ k d from below. absurd (let past = c.loop-place-test.false in omega arith))
