use Rattle.blk_base.proofs.CrcLemmas.{register_after-fits, crc32c_of-fits, block_sum-fits, name_hash_of-fits, extref_hash_of-fits}
use Rattle.blk_base.proofs.crc.register_fits.Goals as goal

pub returns : goal.returns
returns c = record {
  register = register_after-fits;
  sum = crc32c_of-fits;
  block_sum = block_sum-fits;
  name_hash = name_hash_of-fits;
  extref_hash = extref_hash_of-fits;
}
