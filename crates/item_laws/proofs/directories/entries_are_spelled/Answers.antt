use Rattle.item_laws.specs.Directories.{entries_from, entries_to}
use Rattle.item_laws.proofs.directories.entries_are_spelled.Goals as goal

pub returns : goal.returns
returns c kind bytes entries b = (entries_from kind bytes entries b, entries_to kind bytes entries)
