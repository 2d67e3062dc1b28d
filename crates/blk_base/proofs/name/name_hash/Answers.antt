use Rattle.blk_base.specs.Crc.{name_hash_of}
use Rattle.blk_base.proofs.name.name_hash.Goals as goal

pub returns : goal.returns
unfolding name_hash_of
returns c = c.crc_register.ensures
