use Rattle.log_items.proofs.Written.{file_is_written, inode_is_written}
use Rattle.log_items.proofs.laws.an_inode_is_written.Goals as goal

pub returns-clause-inode : goal.returns-clause-inode
returns-clause-inode c = inode_is_written

pub returns-clause-file : goal.returns-clause-file
returns-clause-file c = file_is_written
