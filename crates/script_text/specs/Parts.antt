-- Lists of parts, as the code has them.
use Rattle.std.specs.Prelude.{ℕ, List, map}
use denote.Ref.{Bor}

-- the bytes of each part
abbrev pub bytes_of : List (Bor (List ℕ)) → List (List ℕ)
bytes_of parts = map (λ part. part.now) parts
