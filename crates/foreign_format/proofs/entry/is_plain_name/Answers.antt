use Rattle.foreign_format.proofs.Names.{is_name_same}
use Rattle.foreign_format.proofs.entry.is_plain_name.Goals as goal

pub returns-clause-value : goal.returns-clause-value
returns-clause-value c = is_name_same c.is_name.result c.args.name.now c.is_name.ensures
