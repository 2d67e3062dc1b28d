-- What two runs of the same operations have in common, whichever indexes their names got.
use Rattle.std.specs.Prelude.{◌≡◌, ◌<◌, ◌^◌, ℕ, Bool, List, [], ◌∷◌, Some, Contains, is_some, ⊤}
use Rattle.std.specs.FinMap.{get}
use Rattle.flat_model.specs.declared.answer.Answer.{Answer}
use Rattle.flat_model.specs.Names.{FlatName}
use Rattle.flat_model.specs.Volume.{RunSub, RunVolume}
use Rattle.flat_model.specs.Step.{Operated, after_one, step}

-- a name without its index
abbrev pub unindexed : FlatName → FlatName
unindexed name = record name { index = 0 }

-- two subvolumes in their runs differ in indexes alone: they have the same inodes with the same records, the same names but for their
-- indexes, and have had the same inode numbers (own)
pub record DifferInIndexes (one two : RunSub) : Type 0 where
  pub inodes : one.sub.inodes ≡ two.sub.inodes
  pub there : (name : FlatName) → Contains one.sub.names name → (other : FlatName) × Contains two.sub.names other × (unindexed name ≡ unindexed other)
  pub back : (name : FlatName) → Contains two.sub.names name → (other : FlatName) × Contains one.sub.names other × (unindexed name ≡ unindexed other)
  pub last_ino : one.numbers.last_ino ≡ two.numbers.last_ino

-- two volumes in their runs differ in indexes alone: they have the same subvolumes, and each differs so (own)
pub record VolumesDifferInIndexes (one two : RunVolume) : Type 0 where
  pub subvolumes : (id : ℕ) → is_some (get one id) ≡ is_some (get two id)
  pub each : (id : ℕ) (a b : RunSub) → get one id ≡ Some a → get two id ≡ Some b → DifferInIndexes a b

-- two histories have the same operations, and the same of them found too little room
abbrev pub HaveSameOperations : List Operated → List Operated → Type 0
HaveSameOperations [] [] = ⊤
HaveSameOperations [] (two ∷ twos) = ⊥
HaveSameOperations (one ∷ ones) [] = ⊥
HaveSameOperations (one ∷ ones) (two ∷ twos) = (one.op ≡ two.op) × (one.short ≡ two.short) × HaveSameOperations ones twos

-- no subvolume has had an index of 2^62 or above
abbrev pub AreUnspent : RunVolume → Type 0
AreUnspent run = (id : ℕ) (sub : RunSub) → get run id ≡ Some sub → sub.numbers.last_index < 2 ^ 62

-- what the operations of a history answer, one after the other
abbrev pub answers_of : RunVolume → List Operated → List Answer
answers_of run [] = []
answers_of run (operated ∷ history) = (step run operated.op operated.indexes).answer ∷ answers_of (after_one run operated) history
