use Rattle.format_laws.specs.Superblock.{IsSuper-from_read, super_of-Ok}
use Rattle.format_laws.proofs.super_is_read.Goals as goal

pub returns : goal.returns
returns c = λ bytes disk_blocks v. (IsSuper-from_read bytes disk_blocks v, super_of-Ok bytes disk_blocks v)
