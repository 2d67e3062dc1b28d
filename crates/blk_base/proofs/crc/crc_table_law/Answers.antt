use Rattle.blk_base.proofs.CrcLemmas.{crc_byte_by_table}
use Rattle.blk_base.proofs.crc.crc_table_law.Goals as goal

pub returns : goal.returns
returns c = crc_byte_by_table
