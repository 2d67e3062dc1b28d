use Rattle.std.proofs.Common.{refl}
use Rattle.blk_base.specs.Entries.{ref_bytes}
use Rattle.std.specs.List.{flat_map}
use Rattle.item_laws.specs.Refs.{refs_to}
use Rattle.item_laws.proofs.names.refs_read_back.Goals as goal

pub returns : goal.returns
returns c key refs some indexes names = refs_to key (flat_map ref_bytes refs) refs (record { some = some; spelled = refl; indexes = indexes; names = names })
