-- Entries with byte strings as their keys, put one behind the other into their places.
use Rattle.std.specs.Prelude.{ℕ, List, [], ◌∷◌}
use Rattle.std.specs.Ordering.{nat_cmp}
use Rattle.std.specs.Cmp.Lexicographic.{slice_cmp}
use Rattle.std.specs.FinMap.Entries.{put}

-- these entries with further ones, each of which takes the place of one with the same key
abbrev pub all_put : {V : Type 0} → List (List ℕ × V) → List (List ℕ × V) → List (List ℕ × V)
all_put entries [] = entries
all_put entries (one ∷ more) = all_put (put (slice_cmp nat_cmp) one.0 one.1 entries) more
