-- The names of a directory in the order of their bytes, and the places to which they lead.
use Rattle.std.specs.Prelude.{ℕ, ◌==◌, Bool, true, false, not, List, [], ◌∷◌, ◌++◌, codes, filter, map, Result, Ok, Err, if◌then◌else◌}
use Rattle.std.specs.Ordering.{nat_cmp, match_ordering}
use Rattle.std.specs.Cmp.Lexicographic.{slice_cmp}
use Rattle.blk_base.specs.declared.fault.ItemFault.{ItemFault}
use Rattle.blk_base.specs.declared.key.Key.{Key}
use Rattle.io_edge.specs.Printed.{printed}
use Rattle.foreign_format.specs.declared.entry.EntryKind.{EntryKind}
use Rattle.foreign_format.specs.declared.fault.ForeignFault.{ForeignFault}
use Rattle.foreign_format.specs.declared.fault.ForeignFault.TheVariants.{Item}
use Rattle.foreign_format.specs.Answer.{and_then}
use Rattle.foreign_format.specs.Items.{EntryValue}
use Rattle.foreign_items.specs.Rows.{NameValue}

-- what a row's item says, or its fault under the item's leaf and key
abbrev pub at_row : {A : Type 0} → ℕ → Key → Result A ItemFault → Result A ForeignFault
at_row leaf key (Ok value) = Ok value
at_row leaf key (Err fault) = Err (Item leaf key fault)

-- whether bytes come before others
abbrev pub bytes_below : List ℕ → List ℕ → Bool
bytes_below bytes others = match_ordering (slice_cmp nat_cmp bytes others) true false false

-- an entry behind those whose names aren't above its own
unfoldable pub put_entry : EntryValue → List EntryValue → List EntryValue
put_entry entry [] = entry ∷ []
put_entry entry (other ∷ others) = if bytes_below entry.name other.name then entry ∷ other ∷ others else other ∷ put_entry entry others

-- the entries of rows among those so far, in the order of the bytes of their names, or the first row's fault
unfoldable pub in_byte_order : List EntryValue → List NameValue → Result (List EntryValue) ForeignFault
in_byte_order entries [] = Ok entries
in_byte_order entries (row ∷ rows) = and_then (at_row row.leaf row.key row.entry) (λ entry. in_byte_order (put_entry entry entries) rows)

-- the row is of a directory
abbrev pub is_of : ℕ → NameValue → Bool
is_of dir row = row.key.objectid == dir

-- the rows of a directory, and those of the others
abbrev pub rows_of : ℕ → List NameValue → List NameValue
rows_of dir rows = filter (is_of dir) rows

abbrev pub rows_beside : ℕ → List NameValue → List NameValue
rows_beside dir rows = filter (λ row. not (is_of dir row)) rows

-- what stands at the end of names: their text, each behind a slash, and the inode or subvolume to which they lead
pub record Place : Type 0 where
  pub path : List ℕ
  pub to : ℕ
  pub kind : EntryKind

-- the place of an entry below a directory with this path
abbrev pub place_below : List ℕ → EntryValue → Place
place_below path entry = record { path = path ++ (codes "/" ++ printed entry.name); to = entry.to; kind = entry.kind }

-- the places of the entries of a directory with this path
abbrev pub places_below : List ℕ → List EntryValue → List Place
places_below path entries = map (place_below path) entries
