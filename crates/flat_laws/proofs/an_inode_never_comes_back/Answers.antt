use Rattle.flat_laws.proofs.Advances.{inodes_once}
use Rattle.flat_laws.proofs.an_inode_never_comes_back.Goals as goal

pub returns : goal.returns
returns c volume history coherent legal p q r id ino one two first second has none has' = inodes_once volume history coherent legal p q r id ino one two first second has none has'
