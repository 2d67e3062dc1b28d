-- Long names of one file in one directory, made one after the other: which of them are near.
use Rattle.std.specs.Prelude.{ℕ, zero, suc, ◌+◌, List, [], ◌∷◌, None, replicate}
use Rattle.flat_model.specs.Names.{FlatName}
use Rattle.flat_model.specs.Operations.{new_name}
use Rattle.flat_model.specs.Walk.{AtSlot}

-- so many names of 200 bytes of file 257 in directory 256, the last made first: each is made behind those that follow it
abbrev pub long_names : ℕ → List FlatName
long_names zero = []
long_names (suc count) = new_name (long_names count) (AtSlot 256 ((97 + count) ∷ replicate 199 120) None) (2 + count) 257 ∷ long_names count
