use Rattle.table_volume.proofs.Changing.{change_holds}
use Rattle.table_volume.proofs.change.a_change_touches_few_items.Goals as goal

pub returns : goal.returns
returns c = change_holds
