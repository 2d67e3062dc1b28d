use Rattle.blk_base.proofs.CrcLemmas.{register_after-append}
use Rattle.blk_base.proofs.crc.register_append.Goals as goal

pub returns : goal.returns
returns c = register_after-append
