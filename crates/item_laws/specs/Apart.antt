-- Entries whose names differ.
use Rattle.std.specs.Prelude.{◌≡◌, ◌≢◌, ◌<◌, ℕ, List, Some}
use Rattle.std.specs.List.{slice_get}
use Rattle.blk_base.specs.Entries.{EntryValue}

-- no two entries have one name
abbrev pub NamesDiffer : List EntryValue → Type 0
NamesDiffer entries = (i j : ℕ) (a b : EntryValue) → i < j → slice_get entries i ≡ Some a → slice_get entries j ≡ Some b → a.name ≢ b.name
