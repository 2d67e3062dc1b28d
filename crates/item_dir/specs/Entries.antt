-- What a reader of entries still has to give.
use Rattle.std.specs.Prelude.{ℕ, List, []}
use Rattle.std.specs.Option.{unwrap_or}
use Rattle.blk_base.specs.Entries.{EntryValue, all_entries, entry_from}

-- the entries in bytes that are whole entries
unfoldable pub entries_in : List ℕ → List EntryValue
entries_in bytes = unwrap_or (all_entries entry_from bytes) []
