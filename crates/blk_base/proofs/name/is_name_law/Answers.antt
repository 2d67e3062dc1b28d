use Rattle.blk_base.proofs.NameLemmas.{is_name_decides}
use Rattle.blk_base.proofs.name.is_name_law.Goals as goal

pub returns : goal.returns
returns c = is_name_decides
