-- The attributes that stand in an item ("XATTR_ITEM").
use Rattle.std.specs.Prelude.{◌≡◌, ◌+◌, ℕ, not, List, [], ◌∷◌, length, filter, Option, Some, None, Result, Ok, Err, if◌then◌else◌}
use Rattle.std.specs.List.{flat_map}
use Rattle.std.specs.Str.{bytes_eq}
use Rattle.blk_base.specs.declared.fault.ItemFault.{ItemFault}
use Rattle.blk_base.specs.Entries.{EntryFits, EntryValue, attr_entry, entries_of, entry_bytes}
use Rattle.blk_base.specs.Keys.{xattr_item}
use Rattle.blk_base.specs.Name.{IsName}
use Rattle.volume_image.specs.Subvolume.{make_key}

-- an entry that an item of attributes may have
pub record IsAttribute (entry : EntryValue) : Type 0 where
  pub fits : EntryFits entry
  pub name : IsName entry.name
  pub kind : entry.kind ≡ attr_entry

-- the bytes of an entry
abbrev pub entry_size : EntryValue → ℕ
entry_size entry = 30 + length entry.name + length entry.value

-- the value of the first entry with this name
abbrev pub value_of : List ℕ → List EntryValue → Option (List ℕ)
value_of name [] = None
value_of name (entry ∷ entries) = if bytes_eq entry.name name then Some entry.value else value_of name entries

-- the entries without those of this name
abbrev pub others : List ℕ → List EntryValue → List EntryValue
others name entries = filter (λ entry. not (bytes_eq entry.name name)) entries

-- the entry of an attribute, as it is written
abbrev pub written_entry : ℕ → List ℕ → List ℕ → EntryValue
written_entry transid name value = record { target = make_key 0 0 0; transid = transid; kind = attr_entry; name = name; value = value }

-- the entries that were read, and none where they couldn't be
abbrev pub entries_read : Result (List EntryValue) ItemFault → List EntryValue
entries_read (Ok entries) = entries
entries_read (Err fault) = []

-- the attributes in an item, and none where it isn't there
abbrev pub entries_there : Option (List ℕ) → List EntryValue
entries_there None = []
entries_there (Some bytes) = entries_read (entries_of xattr_item bytes)

-- the item that has these entries, and none where there are none
abbrev pub item_of : List EntryValue → Option (List ℕ)
item_of [] = None
item_of (entry ∷ entries) = Some (flat_map entry_bytes (entry ∷ entries))
