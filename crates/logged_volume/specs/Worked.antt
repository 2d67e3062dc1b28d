-- Two volumes of one run, for worked values: a directory is moved up, and the one that had it is moved below it.
use Rattle.std.specs.Prelude.{ℕ, true, [], ◌∷◌}
use Rattle.std.specs.FinMap.{empty}
use Rattle.flat_model.specs.Names.{FlatName}
use Rattle.flat_model.specs.Volume.{Subvolume}

-- a name of one byte
abbrev pub one_byte : ℕ → ℕ → ℕ → ℕ → FlatName
one_byte dir index byte ino = record { dir = dir; index = index; bytes = byte ∷ []; ino = ino; near = true }

-- the names before: 257 `/y`, 258 `/y/p`, 259 `/y/p/q`, 260 `/y/f`
abbrev pub before_move : Subvolume
before_move = record { inodes = empty; names = one_byte 256 2 121 257 ∷ one_byte 257 3 112 258 ∷ one_byte 257 5 102 260 ∷ one_byte 258 4 113 259 ∷ [] }

-- the names after: 258 `/p`, 259 `/p/q`, 257 `/p/q/y`, 260 `/p/q/y/f`
abbrev pub after_move : Subvolume
after_move = record { inodes = empty; names = one_byte 256 6 112 258 ∷ one_byte 257 5 102 260 ∷ one_byte 258 4 113 259 ∷ one_byte 259 7 121 257 ∷ [] }
