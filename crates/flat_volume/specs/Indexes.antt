-- The indexes that the names of an operation get.
use Rattle.std.specs.Prelude.{ℕ, List, [], ◌∷◌, ◌+◌}

-- the indexes that the new names of an operation get: the one above the greatest that the subvolume has had, and the next (own)
abbrev pub indexes_above : ℕ → List ℕ
indexes_above last = (last + 1) ∷ (last + 2) ∷ []
