use Rattle.table_volume.proofs.Items.{with_here, with_other, without_here, without_other}
use Rattle.table_volume.proofs.edited.one_item_changes.Goals as goal

pub returns-clause-put : goal.returns-clause-put
returns-clause-put c = with_here

pub returns-clause-put_other : goal.returns-clause-put_other
returns-clause-put_other c = with_other

pub returns-clause-gone : goal.returns-clause-gone
returns-clause-gone c = without_here

pub returns-clause-gone_other : goal.returns-clause-gone_other
returns-clause-gone_other c = without_other
