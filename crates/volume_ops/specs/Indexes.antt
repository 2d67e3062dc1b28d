-- The indexes of new names, by the index that their subvolume gives next.
use Rattle.std.specs.Prelude.{◌+◌, ◌-◌, ℕ, zero, suc, List, [], ◌∷◌, Option, None, Some}
use Rattle.std.specs.FinMap.{get}
use Rattle.flat_model.specs.declared.op.Op.{Op}
use Rattle.flat_model.specs.Step.{place_of}
use Rattle.flat_model.specs.Volume.{RunSub, RunVolume}

-- the next index of a subvolume, 0 where it isn't there (own)
abbrev pub next_index_in : Option RunSub → ℕ
next_index_in None = 0
next_index_in (Some sub) = sub.numbers.last_index + 1

-- the next index of the subvolume of an operation's places, the first where it has two; 0 where it isn't there (own)
abbrev pub next_index_of : RunVolume → Op → ℕ
next_index_of run op = next_index_in (get run (place_of op).sub.0)

-- so many names got the indexes from this one on: the first two, 0 where there is none (own)
abbrev pub first_made : ℕ → ℕ → List ℕ
first_made next zero = 0 ∷ 0 ∷ []
first_made next (suc zero) = next ∷ 0 ∷ []
first_made next (suc (suc more)) = next ∷ (next + 1) ∷ []

-- the indexes of the names that an operation made, by the next index before it and behind it (own)
abbrev pub made_between : ℕ → ℕ → List ℕ
made_between before behind = first_made before (behind - before)
