-- Names in the order of their bytes, each with the inode that it leads to, and where bytes stand among them.
use Rattle.std.specs.Prelude.{ℕ, suc, Bool, true, false, List, [], ◌∷◌, map, filter, nat_eq}
use Rattle.std.specs.Ordering.{nat_cmp, match_ordering}
use Rattle.std.specs.Cmp.Lexicographic.{slice_cmp}
use Rattle.std.specs.FinMap.{entries, from_entries}
use Rattle.flat_model.specs.declared.view.NameAt.{NameAt}

-- the place of these bytes, behind those below them
abbrev pub place_in : List ℕ → List (List ℕ × ℕ) → ℕ
place_in bytes [] = 0
place_in bytes (entry ∷ entries) = match_ordering (slice_cmp nat_cmp bytes entry.0) 0 0 (suc (place_in bytes entries))

-- whether these bytes are among them
abbrev pub has_bytes : List ℕ → List (List ℕ × ℕ) → Bool
has_bytes bytes [] = false
has_bytes bytes (entry ∷ entries) = match_ordering (slice_cmp nat_cmp bytes entry.0) false true (has_bytes bytes entries)

-- the names of a directory among these, with the inodes that they lead to, in the order of their bytes; of names with the same bytes the first
abbrev pub ordered : ℕ → List NameAt → List (List ℕ × ℕ)
ordered dir names = entries (from_entries {R = slice_cmp nat_cmp} (map (λ at. (at.name, at.ino.0)) (filter (λ at. nat_eq at.dir.0 dir) names)))
