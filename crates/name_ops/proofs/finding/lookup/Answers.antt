-- The answer is that of the end of the walk.
use Rattle.std.proofs.Common.{[], ◌∷◌, None, Some, sym, subst}
use Rattle.std.specs.Option.{unwrap_or}
use Rattle.block_table.specs.declared.tree.SubState.{SubState}
use Rattle.block_table.specs.Table.{Table}
use Rattle.flat_model.specs.declared.answer.Answer.{Answer}
use Rattle.flat_model.specs.declared.answer.Answer.TheVariants.{NoEnt, NotDir, Number}
use Rattle.flat_model.specs.Operations.{lookup, unchanged, unless_refused}
use Rattle.flat_model.specs.Volume.{RunSub}
use Rattle.flat_model.specs.Walk.{AtRoot, AtSlot, Blocked, Missing, WalkEnd, ino_at, is_absent, is_blocked, walk}
use Rattle.name_walk.specs.declared.found.Target.{Target}
use Rattle.name_walk.specs.declared.found.Target.TheVariants as targets
use Rattle.name_walk.specs.Ends.{target_of}
use Rattle.name_walk.specs.Given.{GivesCoherent}
use Rattle.name_ops.proofs.Answered.{stays}
use Rattle.table_volume.specs.Operated.{IsOperated}
use Rattle.table_volume.specs.Running.{GivesRun}
use Rattle.name_ops.proofs.finding.lookup.Goals as goal

abbrev answer_of : Target → Answer
answer_of (targets.Inode ino) = Number ino
answer_of targets.Missing = NoEnt
answer_of targets.Blocked = NotDir

abbrev IsTold : Table → SubState → RunSub → WalkEnd → Target → Type 0
IsTold table state run end target =
    IsOperated table table state state run (unless_refused run ((is_absent end, NoEnt) ∷ (is_blocked end, NotDir) ∷ []) (unchanged run (Number (unwrap_or (ino_at end) 0)))) (answer_of target) 0

told : (table : Table) (state : SubState) (run : RunSub) (end : WalkEnd) → GivesRun table state run → IsTold table state run end (target_of end)
told table state run AtRoot gives = stays table state run (Number 256) 0 gives
told table state run (AtSlot dir bytes None) gives = stays table state run NoEnt 0 gives
told table state run (AtSlot dir bytes (Some name)) gives = stays table state run (Number name.ino) 0 gives
told table state run Missing gives = stays table state run NoEnt 0 gives
told table state run Blocked gives = stays table state run NotDir 0 gives

coherent : (table : Table) (state : SubState) (run : RunSub) → GivesRun table state run → GivesCoherent table state.tree run.sub
coherent table state run gives = record { gives = gives.gives; coherent = gives.sound.coherent }

pub returns-in-Inode : goal.returns-in-Inode
unfolding lookup
returns-in-Inode c = λ run gives.
    let table = c.args.table.now in
    let state = c.args.sub.now in
    let end = walk run.sub c.args.path.now in
    subst (IsTold table state run end) (sym (c.in-Inode.ensures run.sub (coherent table state run gives))) (told table state run end gives)

pub returns-in-Missing : goal.returns-in-Missing
unfolding lookup
returns-in-Missing c = λ run gives.
    let table = c.args.table.now in
    let state = c.args.sub.now in
    let end = walk run.sub c.args.path.now in
    subst (IsTold table state run end) (sym (c.in-Missing.ensures run.sub (coherent table state run gives))) (told table state run end gives)

pub returns-in-Blocked : goal.returns-in-Blocked
unfolding lookup
returns-in-Blocked c = λ run gives.
    let table = c.args.table.now in
    let state = c.args.sub.now in
    let end = walk run.sub c.args.path.now in
    subst (IsTold table state run end) (sym (c.in-Blocked.ensures run.sub (coherent table state run gives))) (told table state run end gives)
