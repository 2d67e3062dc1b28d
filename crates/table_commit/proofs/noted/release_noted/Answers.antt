use Rattle.std.proofs.Common.{◌∙◌}
use Rattle.table_commit.proofs.Gone.{last_ready, last_released}
use Rattle.table_commit.proofs.noted.release_noted.Goals as goal

pub release-requires-clause-let_go : goal.release-requires-clause-let_go
release-requires-clause-let_go c =
    (last_ready c.args.table.now c.loop-at.table c.args.noted.now.items c.loop-at.noted.items c.pop.new.self.items c.in-Some.at c.loop-at.invariant.0 c.in-Some.ensures.items c.requires.once c.requires.ready).let_go

pub release-requires-clause-back : goal.release-requires-clause-back
release-requires-clause-back c =
    (last_ready c.args.table.now c.loop-at.table c.args.noted.now.items c.loop-at.noted.items c.pop.new.self.items c.in-Some.at c.loop-at.invariant.0 c.in-Some.ensures.items c.requires.once c.requires.ready).back

pub loop-at-preserved : goal.loop-at-preserved
loop-at-preserved c =
    (last_released c.args.table.now c.loop-at.table c.args.noted.now.items c.loop-at.noted.items c.pop.new.self.items c.in-Some.at c.loop-at.invariant.0 c.in-Some.ensures.items c.requires.once c.requires.ready c.release.new.self c.release.ensures, c.pop.ensures.capacity ∙ c.loop-at.invariant.1)
