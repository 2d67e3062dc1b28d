use Rattle.format_laws.specs.Tables.{IsBlock-super_bytes}
use Rattle.format_laws.proofs.super_is_block.Goals as goal

pub returns : goal.returns
returns c = λ v h. IsBlock-super_bytes v h
