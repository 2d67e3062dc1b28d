use Rattle.flat_laws.proofs.Advances.{kinds_once}
use Rattle.flat_laws.proofs.an_inode_has_one_kind.Goals as goal

pub returns : goal.returns
returns c volume history coherent legal p q id ino one two has has' = kinds_once volume history coherent legal p q id ino one two has has'
