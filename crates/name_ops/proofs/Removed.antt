-- unlink and rmdir: the name that goes, and what they come to.
use Rattle.std.proofs.Common.{◌≡◌, ℕ, Bool, false, cond, List, Contains, Option, Some, None, refl, sym, ap, subst, ◌∙◌, arith}
use Rattle.std.proofs.lemmas.Bool.{true≢false}
use Rattle.block_table.specs.declared.tree.SubState.{SubState}
use Rattle.block_table.specs.Table.{Table}
use Rattle.flat_model.specs.declared.answer.Answer.{Answer}
use Rattle.flat_model.specs.declared.answer.Answer.TheVariants.{Plain}
use Rattle.flat_model.specs.Names.{FlatName, is_in_slot}
use Rattle.flat_model.specs.Needs.{gone_with}
use Rattle.flat_model.specs.Operations.{Outcome, first_answer, removal_done, rmdir, rmdir_rows, unchanged, unless_refused, unlink, unlink_rows, without_name}
use Rattle.flat_model.specs.Refusal.{is_refusal}
use Rattle.flat_model.specs.Running.{IsSound}
use Rattle.flat_model.specs.Volume.{RunSub}
use Rattle.flat_model.specs.Walk.{WalkEnd, AtSlot, walk}
use Rattle.flat_model.proofs.Fresh.{no_answer}
use Rattle.flat_model.proofs.Sound.{KeepsSound, no_dir_entries, no_entries}
use Rattle.flat_model.proofs.Ways.{find_some, walk_slot}
use Rattle.table_volume.specs.Edited.{Makes}
use Rattle.table_volume.specs.Operated.{HasRoom, IsOperated}
use Rattle.table_volume.specs.Running.{GivesRun}
use Rattle.table_volume.proofs.SubEdits.{sub_more}
use Rattle.name_ops.specs.Drops.{MayDrop, most_dropped, most_for, room_for}
use Rattle.name_ops.proofs.Stages.{room_less}

-- the room of an operation that is done
pub room_done : (table : Table) (outcome done : Outcome) (removed : ℕ) → outcome ≡ done → is_refusal done.answer ≡ false → HasRoom table (room_for outcome removed) → HasRoom table (most_for removed)
room_done table outcome done removed is fine room =
    subst (λ (b : Bool). HasRoom table (cond b 0 (most_for removed))) (ap (λ (o : Outcome). is_refusal o.answer) is ∙ fine) room

module _ (run : RunSub) (sound : IsSound run) (path : List (List ℕ)) (dir : ℕ) (bytes : List ℕ) (n : FlatName) (at : walk run.sub path ≡ AtSlot dir bytes (Some n)) where
  member : Contains run.sub.names n
  member = (find_some (is_in_slot dir bytes) run.sub.names n (sym (walk_slot run.sub path dir bytes (Some n) at).found)).0

  -- ---- unlink

  pub unlink_is : first_answer (unlink_rows run (AtSlot dir bytes (Some n))) ≡ None → unlink run path ≡ removal_done run (AtSlot dir bytes (Some n))
  unfolding unlink
  unlink_is none =
      (λ i. unless_refused run (unlink_rows run (at i)) (removal_done run (at i)))
      ∙ ap (λ (o : Option Answer). elim o as (λ o. Outcome) [ None ↦ removal_done run (AtSlot dir bytes (Some n)) | Some answer ↦ unchanged run answer ]) none

  pub unlink_may : first_answer (unlink_rows run (AtSlot dir bytes (Some n))) ≡ None → MayDrop run.sub n
  unlink_may none =
      let rows = no_answer (unlink_rows run (AtSlot dir bytes (Some n))) none in
      record { coherent = sound.coherent; there = member; empty = no_dir_entries run.sub sound.coherent n.ino rows.1.1.0 }

  -- ---- rmdir

  pub rmdir_is : first_answer (rmdir_rows run (AtSlot dir bytes (Some n))) ≡ None → rmdir run path ≡ removal_done run (AtSlot dir bytes (Some n))
  unfolding rmdir
  rmdir_is none =
      (λ i. unless_refused run (rmdir_rows run (at i)) (removal_done run (at i)))
      ∙ ap (λ (o : Option Answer). elim o as (λ o. Outcome) [ None ↦ removal_done run (AtSlot dir bytes (Some n)) | Some answer ↦ unchanged run answer ]) none

  pub rmdir_may : first_answer (rmdir_rows run (AtSlot dir bytes (Some n))) ≡ None → MayDrop run.sub n
  rmdir_may none =
      let rows = no_answer (rmdir_rows run (AtSlot dir bytes (Some n))) none in
      record { coherent = sound.coherent; there = member; empty = no_entries run.sub n.ino rows.1.1.0 }

  -- ---- both

  module _ (table : Table) (state : SubState) (gives : GivesRun table state run) (outcome : Outcome) (is : outcome ≡ removal_done run (AtSlot dir bytes (Some n))) where
    pub removal_room : HasRoom table (room_for outcome (gone_with run.sub (walk run.sub path))) → HasRoom table (most_dropped run.sub n)
    removal_room room =
        let enough = room_done table outcome (removal_done run (AtSlot dir bytes (Some n))) (gone_with run.sub (walk run.sub path)) is refl room in
        let here = subst (λ (end : WalkEnd). HasRoom table (most_for (gone_with run.sub end))) at enough in
        room_less table (most_for (gone_with run.sub (AtSlot dir bytes (Some n)))) (most_dropped run.sub n) here (omega arith)

    pub removal_operated : (new : Table) (after : SubState) → KeepsSound run outcome → Makes table new state after (most_dropped run.sub n) (without_name run.sub n) → after.next_ino ≡ state.next_ino → after.next_index ≡ state.next_index
        → IsOperated table new state after run outcome Plain (most_for (gone_with run.sub (walk run.sub path)))
    removal_operated new after keeps makes ino index =
        subst (λ (end : WalkEnd). IsOperated table new state after run outcome Plain (most_for (gone_with run.sub end))) (sym at)
        (subst (λ (o : Outcome). IsOperated table new state after run o Plain (most_for (gone_with run.sub (AtSlot dir bytes (Some n))))) (sym is) (record {
          said = refl;
          gives = record {
            gives = makes.gives;
            current = makes.edit.current;
            sound = subst (λ (o : Outcome). KeepsSound run o) is keeps tt;
            next_ino = ino ∙ gives.next_ino;
            next_index = index ∙ gives.next_index;
          };
          edit = sub_more table new state after (most_dropped run.sub n) (most_for (gone_with run.sub (AtSlot dir bytes (Some n)))) makes.edit (omega arith);
          choice = tt;
          refused = λ refuses. absurd (true≢false (sym refuses));
        }))
