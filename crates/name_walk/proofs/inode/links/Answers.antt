use Rattle.std.proofs.Common.{sym}
use Rattle.item_inode.specs.Inode.{inode_view}
use Rattle.name_walk.proofs.Counting.{links_said, no_links}
use Rattle.name_walk.proofs.inode.links.Goals as goal

pub returns-in-Some : goal.returns-in-Some
returns-in-Some c = λ sub given other. links_said sub given.coherent c.args.ino (inode_view c.in-Some.item) other (c.in-Some.ensures sub given)

pub returns-in-None : goal.returns-in-None
returns-in-None c = λ sub given other. sym (no_links sub given.coherent c.args.ino (c.in-None.ensures sub given))
