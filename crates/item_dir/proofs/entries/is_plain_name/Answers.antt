use Rattle.item_laws.specs.Names.{is_name_same}
use Rattle.item_dir.proofs.entries.is_plain_name.Goals as goal

pub returns : goal.returns
returns c = is_name_same c.is_name.result c.args.name.now c.is_name.ensures
