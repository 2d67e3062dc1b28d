use Rattle.format_laws.specs.Items as items
use Rattle.format_laws.proofs.root_reads_back.Goals as goal

pub returns : goal.returns
returns c = λ v h. items.root_reads_back v h
