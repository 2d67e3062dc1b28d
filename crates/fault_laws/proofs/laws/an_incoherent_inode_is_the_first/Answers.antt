use Rattle.fault_laws.proofs.Agreeing.{incoherent_is_first}
use Rattle.fault_laws.proofs.laws.an_incoherent_inode_is_the_first.Goals as goal

pub returns : goal.returns
returns c = incoherent_is_first
