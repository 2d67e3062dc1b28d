use Rattle.std.proofs.Common.{sym}
use Rattle.blk_base.specs.Entries.{EntryValue}
use Rattle.blk_base.specs.Keys.{dir_index}
use Rattle.blk_base.specs.Name.{IsName}
use Rattle.item_laws.specs.Directories.{entries_from}
use Rattle.name_walk.proofs.Reading.{all_of, are_bytes}
use Rattle.current_view.proofs.told.add_indexed.Goals as goal

pub add_entries-requires : goal.add_entries-requires
add_entries-requires c = all_of (λ (e : EntryValue). IsName e.name) c.in-Ok.entries (entries_from dir_index c.args.bytes.now c.in-Ok.entries (are_bytes c.args.bytes.now c.type_inv.bytes) (sym c.in-Ok.ensures)).names
