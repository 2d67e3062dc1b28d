use Rattle.std.proofs.Common.{refl}
use Rattle.blk_base.specs.Entries.{extref_bytes}
use Rattle.std.specs.List.{flat_map}
use Rattle.item_laws.specs.ExtRefs.{extrefs_to}
use Rattle.item_laws.proofs.names.extrefs_read_back.Goals as goal

pub returns : goal.returns
returns c refs some numbers names = extrefs_to (flat_map extref_bytes refs) refs (record { some = some; spelled = refl; numbers = numbers; names = names })
