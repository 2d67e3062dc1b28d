use Rattle.table_volume.proofs.Keyed.{extents_hold, items_from_keys, keys_hold}
use Rattle.table_volume.proofs.change.items_are_by_keys.Goals as goal

pub returns-clause-parts : goal.returns-clause-parts
returns-clause-parts c = keys_hold

pub returns-clause-extents : goal.returns-clause-extents
returns-clause-extents c = extents_hold

pub returns-clause-whole : goal.returns-clause-whole
returns-clause-whole c = items_from_keys
