use Rattle.std.proofs.Common.{arith}
use Rattle.blk_base.proofs.CrcTables.{table_entry}
use Rattle.blk_base.proofs.crc_tables.advanced.Goals as goal

pub returns : goal.returns
returns c = table_entry c.args.zeros c.args.byte c.requires (omega arith)
