-- What an operation comes to, by its rows.
use Rattle.std.proofs.Common.{◌≡◌, ℕ, Bool, true, false, cond, List, [], ◌∷◌, ◌++◌, Option, Some, None, refl, sym, ap, subst, ◌∙◌, arith}
use Rattle.block_table.specs.declared.tree.SubState.{SubState}
use Rattle.block_table.specs.Table.{Table}
use Rattle.flat_model.specs.declared.answer.Answer.{Answer}
use Rattle.flat_model.specs.Operations.{Outcome, first_answer, unchanged, unless_refused}
use Rattle.flat_model.specs.Volume.{RunSub, Subvolume}
use Rattle.table_volume.specs.Edited.{Makes}
use Rattle.table_volume.specs.Running.{GivesRun}
use Rattle.table_volume.proofs.SubEdits.{sub_more, sub_nothing}
use Rattle.flat_model.specs.Walk.{walk}
use Rattle.name_walk.specs.declared.found.End.{End}
use Rattle.name_walk.specs.Ends.{end_view}
use Rattle.name_walk.specs.Given.{GivesCoherent}
use Rattle.table_volume.specs.Operated.{IsOperated}

-- nothing changes
pub stays : (table : Table) (state : SubState) (run : RunSub) (answer : Answer) (most : ℕ) → GivesRun table state run → IsOperated table table state state run (unchanged run answer) answer most
stays table state run answer most gives = record {
  said = refl;
  gives = gives;
  edit = sub_more table table state state 0 most (sub_nothing table state gives.current) (omega arith);
  choice = tt;
  refused = λ is. (refl, refl);
}

-- the first row that holds decides
pub refused : (table : Table) (state : SubState) (run : RunSub) (rows : List (Bool × Answer)) (done : Outcome) (answer : Answer) (most : ℕ) → GivesRun table state run → first_answer rows ≡ Some answer
    → IsOperated table table state state run (unless_refused run rows done) answer most
refused table state run rows done answer most gives is =
    subst (λ (o : Option Answer). IsOperated table table state state run (elim o as (λ o. Outcome) [ None ↦ done | Some answer ↦ unchanged run answer ]) answer most) (sym is) (stays table state run answer most gives)

-- none does
pub finished : (old new : Table) (before after : SubState) (run : RunSub) (rows : List (Bool × Answer)) (done : Outcome) (answer : Answer) (most : ℕ) → first_answer rows ≡ None
    → IsOperated old new before after run done answer most → IsOperated old new before after run (unless_refused run rows done) answer most
finished old new before after run rows done answer most is operated =
    subst (λ (o : Option Answer). IsOperated old new before after run (elim o as (λ o. Outcome) [ None ↦ done | Some answer ↦ unchanged run answer ]) answer most) (sym is) operated

-- nothing changes, and the answer is this one
pub stays_as : (table : Table) (state : SubState) (run : RunSub) (answer other : Answer) (most : ℕ) → GivesRun table state run → other ≡ answer → IsOperated table table state state run (unchanged run answer) other most
stays_as table state run answer other most gives same =
    subst (λ (a : Answer). IsOperated table table state state run (unchanged run answer) a most) (sym same) (stays table state run answer most gives)

-- where a walk ends, from what the code keeps
pub place_is : (table : Table) (state : SubState) (run : RunSub) (path : List (List ℕ)) (found end : End) → GivesRun table state run
    → ((sub : Subvolume) → GivesCoherent table state.tree sub → end_view found ≡ walk sub path) → found ≡ end → walk run.sub path ≡ end_view end
place_is table state run path found end gives walks is = sym (walks run.sub (record { gives = gives.gives; coherent = gives.sound.coherent })) ∙ ap end_view is

-- the rows behind some of which none holds, and behind some of which one does
pub rows_behind : (rows more : List (Bool × Answer)) → first_answer rows ≡ None → first_answer (rows ++ more) ≡ first_answer more
rows_behind [] more none = refl
rows_behind (row ∷ rows) more none =
    elim row.0 as (λ b. cond b (Some row.1) (first_answer rows) ≡ None → cond b (Some row.1) (first_answer (rows ++ more)) ≡ first_answer more) [
      | true ↦ λ e. absurd cc
      | false ↦ λ e. rows_behind rows more e
    ] none

pub rows_ahead : (rows more : List (Bool × Answer)) (answer : Answer) → first_answer rows ≡ Some answer → first_answer (rows ++ more) ≡ Some answer
rows_ahead [] more answer is = absurd cc
rows_ahead (row ∷ rows) more answer is =
    elim row.0 as (λ b. cond b (Some row.1) (first_answer rows) ≡ Some answer → cond b (Some row.1) (first_answer (rows ++ more)) ≡ Some answer) [
      | true ↦ λ e. e
      | false ↦ λ e. rows_ahead rows more answer e
    ] is

-- an edit with other numbers beside
pub renumbered : (old new : Table) (before after : SubState) (most ino index : ℕ) (sub : Subvolume) → Makes old new before after most sub
    → Makes old new before (record after { next_ino = ino; next_index = index }) most sub
renumbered old new before after most ino index sub makes = record {
  gives = makes.gives;
  edit = record {
    edit = makes.edit.edit;
    current = makes.edit.current;
    kept = makes.edit.kept;
    sealed = makes.edit.sealed;
    owner = makes.edit.owner;
    running = makes.edit.running;
    bear = makes.edit.bear;
    taken = makes.edit.taken;
  };
}
