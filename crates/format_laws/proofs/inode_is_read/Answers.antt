use Rattle.format_laws.specs.Items.{IsInode-from_read, inode_of-Ok}
use Rattle.format_laws.proofs.inode_is_read.Goals as goal

pub returns : goal.returns
returns c = λ bytes v. (IsInode-from_read bytes v, inode_of-Ok bytes v)
