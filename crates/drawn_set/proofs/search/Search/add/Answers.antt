use Rattle.std.proofs.Common.{◌∙◌}
use Rattle.drawn_set.proofs.Sets.{insert_is_add}
use Rattle.drawn_set.proofs.search.Search.add.Goals as goal

pub returns-then-not-branch-clause-members : goal.returns-then-not-branch-clause-members
returns-then-not-branch-clause-members c = c.in_ok-insert.ensures.keys ∙ insert_is_add c.args.ino c.args.self.now.members.keys

pub returns-clause-members : goal.returns-clause-members
returns-clause-members c = c.in_ok-insert.ensures.keys ∙ insert_is_add c.args.ino c.args.self.now.members.keys
