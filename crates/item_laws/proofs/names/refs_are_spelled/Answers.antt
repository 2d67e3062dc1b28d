use Rattle.item_laws.specs.Refs.{refs_from, refs_to}
use Rattle.item_laws.proofs.names.refs_are_spelled.Goals as goal

pub returns : goal.returns
returns c key bytes refs b = (refs_from key bytes refs b, refs_to key bytes refs)
