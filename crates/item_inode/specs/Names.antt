-- What the readers of names still have to give, and what they give.
use Rattle.std.specs.Prelude.{ℕ, Option, List, []}
use Rattle.std.specs.Option.{unwrap_or, option_map}
use Rattle.std.specs.Borrow.{Bor}
use Rattle.blk_base.specs.Entries.{RefValue, ExtRefValue, all_entries, ref_from, extref_from}
use Rattle.blk_base.specs.declared.key.Ino.{Ino}

-- the names in bytes that are whole entries
unfoldable pub refs_in : List ℕ → List RefValue
refs_in bytes = unwrap_or (all_entries ref_from bytes) []

unfoldable pub extrefs_in : List ℕ → List ExtRefValue
extrefs_in bytes = unwrap_or (all_entries extref_from bytes) []

-- what an index and a name say
abbrev pub ref_view : ℕ × Bor (List ℕ) → RefValue
ref_view item = record { index = item.0; name = item.1.now }

-- what a directory, an index and a name say
abbrev pub extref_view : Ino × ℕ × Bor (List ℕ) → ExtRefValue
extref_view item = record { parent = item.0.0; index = item.1; name = item.2.now }

-- an entry at the front, and the bytes behind it
abbrev pub first_ref_view : Option (ℕ × Bor (List ℕ) × Bor (List ℕ)) → Option (RefValue × List ℕ)
first_ref_view first = option_map (λ x. (ref_view (x.0, x.1), x.2.now)) first

abbrev pub first_extref_view : Option (Ino × ℕ × Bor (List ℕ) × Bor (List ℕ)) → Option (ExtRefValue × List ℕ)
first_extref_view first = option_map (λ x. (extref_view (x.0, x.1, x.2), x.3.now)) first
