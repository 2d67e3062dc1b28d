-- What an entry says, apart from where its name and value lie in memory.
use Rattle.std.specs.Prelude.{ℕ, Option, List}
use Rattle.std.specs.Option.{option_map}
use Rattle.std.specs.Borrow.{Bor}
use Rattle.blk_base.specs.Entries.{EntryValue}
use Rattle.item_dir.specs.declared.entry.Entry.{Entry}

-- the fields
abbrev pub entry_view : Entry → EntryValue
entry_view entry = record { target = entry.target; transid = entry.transid; kind = entry.kind; name = entry.name.now; value = entry.value.now }

-- an entry at the front, and the bytes behind it
abbrev pub first_entry_view : Option (Entry × Bor (List ℕ)) → Option (EntryValue × List ℕ)
first_entry_view first = option_map (λ x. (entry_view x.0, x.1.now)) first
