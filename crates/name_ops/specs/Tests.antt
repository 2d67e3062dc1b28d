-- The rows of operations that come before the last, which tells whether the new names would collide.
use Rattle.std.specs.Prelude.{Bool, ◌||◌, List, [], ◌∷◌, nat_le}
use Rattle.std.specs.Option.{unwrap_or}
use Rattle.flat_model.specs.declared.answer.Answer.{Answer}
use Rattle.flat_model.specs.declared.answer.Answer.TheVariants.{NoEnt, NotDir, IsDir, Exists, Links, TooLarge}
use Rattle.flat_model.specs.Coherent.{most_links}
use Rattle.flat_model.specs.Names.{links_of}
use Rattle.flat_model.specs.Operations.{indexes_are_spent, inos_are_spent}
use Rattle.flat_model.specs.Volume.{RunSub, is_dir_there}
use Rattle.flat_model.specs.Walk.{WalkEnd, ino_at, is_absent, is_blocked, is_dirless, is_taken, record_at}

-- of create, mkdir and symlink
abbrev pub make_tests : RunSub → WalkEnd → List (Bool × Answer)
make_tests run place =
    (is_dirless place, NoEnt)
    ∷ (is_blocked place, NotDir)
    ∷ (is_taken place, Exists)
    ∷ (inos_are_spent run.numbers || indexes_are_spent run.numbers, TooLarge)
    ∷ []

-- of link
abbrev pub link_tests : RunSub → WalkEnd → WalkEnd → List (Bool × Answer)
link_tests run from to =
    (is_absent from || is_dirless to, NoEnt)
    ∷ (is_blocked from || is_blocked to, NotDir)
    ∷ (is_dir_there (record_at run.sub from), IsDir)
    ∷ (is_taken to, Exists)
    ∷ (nat_le most_links (links_of run.sub.names (unwrap_or (ino_at from) 0)), Links)
    ∷ (indexes_are_spent run.numbers, TooLarge)
    ∷ []
