use Rattle.std.proofs.Common.{refl}
use Rattle.blk_base.specs.Entries.{entry_bytes}
use Rattle.std.specs.List.{flat_map}
use Rattle.item_laws.specs.Directories.{entries_to}
use Rattle.item_laws.proofs.directories.entries_read_back.Goals as goal

pub returns : goal.returns
returns c kind entries some fields names kinds once single =
    entries_to kind (flat_map entry_bytes entries) entries (record { some = some; spelled = refl; fields = fields; names = names; kinds = kinds; once = once; single = single })
