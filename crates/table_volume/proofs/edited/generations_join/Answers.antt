use Rattle.table_volume.proofs.Items.{nothing_bears, bear_joined, put_bears, fewer_bear}
use Rattle.table_volume.proofs.edited.generations_join.Goals as goal

pub returns-clause-nothing : goal.returns-clause-nothing
returns-clause-nothing c = nothing_bears

pub returns-clause-join : goal.returns-clause-join
returns-clause-join c = bear_joined

pub returns-clause-put : goal.returns-clause-put
returns-clause-put c = put_bears

pub returns-clause-fewer : goal.returns-clause-fewer
returns-clause-fewer c = fewer_bear
