-- A name that moves to another slot, in place of the name that stands there.
use Rattle.std.specs.Prelude.{◌≡◌, ℕ, List, Option, None}
use Rattle.flat_model.specs.Names.{FlatName}
use Rattle.flat_model.specs.Operations.{first_answer, rename_tests}
use Rattle.flat_model.specs.Step.{IsPath}
use Rattle.flat_model.specs.Volume.{RunSub}
use Rattle.flat_model.specs.Walk.{AtSlot, walk}
use Rattle.name_ops.specs.Slots.{at_name}

-- no test refuses that this name, which stands at the end of one path, moves to this slot at the end of another
pub record IsMove (run : RunSub) (old new : List (List ℕ)) (moved : FlatName) (dir : ℕ) (bytes : List ℕ) (there : Option FlatName) : Type 0 where
  pub from : walk run.sub old ≡ at_name moved
  pub to : walk run.sub new ≡ AtSlot dir bytes there
  pub is_path : IsPath new
  pub none : first_answer (rename_tests run old new (at_name moved) (AtSlot dir bytes there)) ≡ None
