use Rattle.format_laws.specs.Tables as tables
use Rattle.format_laws.proofs.super_reads_back.Goals as goal

pub returns : goal.returns
returns c = λ v disk_blocks h g. tables.super_reads_back v disk_blocks h g
