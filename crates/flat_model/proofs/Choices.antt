-- The index one above the greatest of the subvolume is always a choice.
use Rattle.std.proofs.Common.{ℕ, ◌+◌, ◌<◌, ◌≡◌, arith, sym, subst, inl, inr}
use Rattle.std.proofs.lemmas.Bool.{cases_eq}
use Rattle.flat_model.specs.Names.{FlatName}
use Rattle.flat_model.specs.Volume.{RunSub, last_index_in, note_name}
use Rattle.flat_model.specs.Step.{IsNextIndex}
use Rattle.flat_model.specs.Running.{IsSound}
use Rattle.flat_model.proofs.Fresh.{last_index_note_same, last_index_note_other}

-- for the first new name
pub next_index_first : (run : RunSub) → IsSound run → (dir : ℕ) → IsNextIndex run.numbers dir (run.numbers.last_index + 1)
next_index_first run sound dir = record { above_those_of_directory = let below = sound.covered.directories dir in omega (arith, below); at_most_one_above_all = omega arith }

-- for a second one, once the first has that index
pub next_index_second : (run : RunSub) → IsSound run → (name : FlatName) (dir : ℕ) → name.index ≡ run.numbers.last_index + 1 → IsNextIndex (note_name run.numbers name) dir (run.numbers.last_index + 2)
next_index_second run sound name dir is = record {
  above_those_of_directory = elim (cases_eq dir name.dir) [
    | inl same ↦ subst (λ d. last_index_in (note_name run.numbers name) d < run.numbers.last_index + 2) (sym same) (let below = sound.covered.directories name.dir in omega (arith, below, is, last_index_note_same run.numbers name))
    | inr other ↦ let below = sound.covered.directories dir in omega (arith, below, last_index_note_other run.numbers name dir other)
  ];
  at_most_one_above_all = omega (arith, is);
}
