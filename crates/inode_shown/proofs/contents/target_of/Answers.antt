use Rattle.std.proofs.Common.{sym}
use Rattle.inode_shown.proofs.Targets.{target_some, target_there}
use Rattle.inode_shown.proofs.contents.target_of.Goals as goal

pub returns-in-Some : goal.returns-in-Some
returns-in-Some c = λ given link gives there.
    c.inline_of.ensures link.target (target_there c.args.table.now c.args.tree.now given gives c.args.ino link there c.in-Some.bytes.now (sym c.in-Some.ensures))

pub returns-in-None : goal.returns-in-None
returns-in-None c = λ given link gives there.
    absurd (target_some c.args.table.now c.args.tree.now given gives c.args.ino link there (sym c.in-None.ensures))
