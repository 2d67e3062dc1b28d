use Rattle.item_laws.specs.ExtRefs.{extrefs_from, extrefs_to}
use Rattle.item_laws.proofs.names.extrefs_are_spelled.Goals as goal

pub returns : goal.returns
returns c bytes refs b = (extrefs_from bytes refs b, extrefs_to bytes refs)
