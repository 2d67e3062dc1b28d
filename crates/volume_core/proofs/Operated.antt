-- The event of an operation, where it was short and where it was carried out.
use Rattle.std.proofs.Common.{◌≡◌, ◌≤◌, ◌<◌, ◌+◌, ◌-◌, ℕ, Bool, List, [], ◌∷◌, ◌++◌, length, refl, sym, ap, subst, ◌∙◌, arith}
use Rattle.block_table.specs.declared.tree.SubState.{SubState}
use Rattle.block_table.specs.Table.{Table, free_blocks}
use Rattle.commit_history.specs.declared.event.Event.TheVariants as event
use Rattle.commit_history.specs.declared.event.OpEnd.{OpEnd}
use Rattle.commit_history.specs.declared.event.OpEnd.TheVariants as ends
use Rattle.commit_history.specs.Legal.{IsAnswered, IsOpEnd, IsShort, shown}
use Rattle.commit_images.specs.Scene.{Mounted, Scene}
use Rattle.commit_core.specs.Coming.{IsOpDone, state_of}
use Rattle.commit_callers.specs.GoWith.{GoWith}
use Rattle.commit_blocks.specs.declared.kept.Kept.{Kept}
use Rattle.commit_blocks.specs.Operating.{HasRoomFor, IsKeptOperated}
use Rattle.commit_blocks.specs.Steps.{HasMoreSpare}
use Rattle.commit_room.specs.Room.{free_blocks as free_for}
use Rattle.flat_model.specs.declared.answer.Answer.{Answer}
use Rattle.flat_model.specs.declared.op.Op.{Op}
use Rattle.flat_model.specs.Needs.{need}
use Rattle.flat_model.specs.Step.{IsInLimits, IsSpelled, step}
use Rattle.flat_model.specs.Volume.{RunVolume}
use Rattle.table_volume.specs.Running.{GiveVolume}
use Rattle.table_volume.proofs.States.{volume_sound}
use Rattle.volume_ops.specs.Indexes.{made_between, next_index_of}
use Rattle.volume_ops.proofs.Required.{room_covers}
use Rattle.volume_ops.proofs.Told.{made_told}
use Rattle.volume_core.specs.InUse.{in_use}
use Rattle.volume_core.specs.declared.volume.Volume.{Volume}
use Rattle.volume_core.specs.Keeps.{IsVolume}
use Rattle.volume_core.proofs.Came.{op_comes}
use Rattle.volume_core.proofs.Usable.{free_enough}

-- ---- the states, as they were lent

pub given_listed : (table : Table) (listed states : List SubState) (run : RunVolume) → listed ≡ states → GiveVolume table states run → GiveVolume table listed run
given_listed table listed states run is given = subst (λ (l : List SubState). GiveVolume table l run) (sym is) given

-- ---- room

-- with so many blocks free, and so many buffers spare, there is room
pub room_for : (old reserved : Kept) (run : RunVolume) (op : Op) (needed free buffers : ℕ) → HasMoreSpare old reserved → needed ≡ need run op → needed ≤ free → free ≡ free_for (length old.table.slots) (length (in_use old.table)) → buffers ≡ needed - 1024 → buffers + 80 ≤ reserved.table.spare
    → HasRoomFor reserved.table run op
room_for old reserved run op needed free buffers more is enough free_is buffers_are spare = record {
  free =
      let same : free_blocks reserved.table ≡ free_blocks old.table = ap (λ (k : Kept). free_blocks k.table) more.same in
      let all : free_for (length old.table.slots) (length (in_use old.table)) ≤ free_blocks old.table = free_enough old.table in
      omega (arith, same, all, is, enough, free_is);
  spare = λ some. let covers = room_covers run op some in omega (arith, covers, is, buffers_are, spare);
}

-- ---- ends

abbrev is_answer : Answer → OpEnd → Answer
is_answer other (ends.Answered answer) = answer
is_answer other (ends.Short free needed) = other

abbrev IsAnAnswer : OpEnd → Type 0
IsAnAnswer (ends.Answered answer) = Unit {0}
IsAnAnswer (ends.Short free needed) = ⊥

not_answered : (free needed : ℕ) (answer : Answer) → ends.Short free needed ≡ ends.Answered answer → ⊥
not_answered free needed answer is = subst IsAnAnswer (sym is) tt

module _ (old new : Volume) (mounted : Mounted) (scene : Scene) (h : IsVolume old mounted scene) (caller : ℕ) (op : Op) (again : Bool) (spelled : IsSpelled op) (limits : IsInLimits op)
    (sealed : new.kept.sealed ≡ old.kept.sealed) (failures : new.failures ≡ old.failures) (seals : new.seals ≡ old.seals) (spares : new.spares ≡ old.spares) where
  abbrev current : RunVolume
  current = (state_of mounted scene).current

  -- it was short
  pub short_done : (free needed : ℕ) → new.kept ≡ old.kept → needed ≡ need current op → free < needed
      → GoWith new.callers mounted.volume (scene.events ++ event.Op caller op again (ends.Short free needed) (0 ∷ 0 ∷ []) ∷ []) → IsOpDone (IsVolume new) mounted scene caller op again (ends.Short free needed) (0 ∷ 0 ∷ [])
  short_done free needed same is few callers = record {
    came = record {
      may = (
        (
          record { spelled = spelled; in_limits = limits; choice = refl },
          subst (λ (n : ℕ). IsOpEnd current op (0 ∷ 0 ∷ []) (ends.Short free n)) (sym is) (IsShort free (subst (λ (n : ℕ). free < n) is few)),
        ),
        refl,
        tt,
      );
      has = op_comes old new mounted scene h sealed failures seals spares caller op again (ends.Short free needed) (0 ∷ 0 ∷ [])
          (subst (λ (k : Kept). Rattle.commit_blocks.specs.Keeps.KeepsBlocks k mounted.image current scene) (sym same) h.kept) callers;
    };
    said = λ answer wrong. absurd (not_answered free needed answer wrong);
  }

  -- it was carried out
  pub answered_done : (reserved : Kept) (answer : Answer) (made : List ℕ) (before behind : ℕ) → IsKeptOperated reserved new.kept mounted.image current scene op answer
      → before ≡ next_index_of current op → ((run : RunVolume) → GiveVolume new.kept.table new.kept.states.items run → behind ≡ next_index_of run op) → made ≡ made_between before behind
      → ((indexes : List ℕ) → GoWith new.callers mounted.volume (scene.events ++ event.Op caller op again (ends.Answered (shown answer)) indexes ∷ []))
      → IsOpDone (IsVolume new) mounted scene caller op again (ends.Answered answer) made
  answered_done reserved answer made before behind done before_is behind_is made_is callers =
      subst (IsOpDone (IsVolume new) mounted scene caller op again (ends.Answered answer)) told (record {
        came = record {
          may = (
            (
              record { spelled = spelled; in_limits = limits; choice = done.choice },
              subst (λ (a : Answer). IsOpEnd current op done.indexes (ends.Answered (shown a))) (sym done.said) IsAnswered,
            ),
            refl,
            tt,
          );
          has = op_comes old new mounted scene h sealed failures seals spares caller op again (ends.Answered (shown answer)) done.indexes done.keeps (callers done.indexes);
        };
        said = λ other is. sym (ap (is_answer other) is) ∙ done.said;
      })
    where
      told : done.indexes ≡ made
      told =
          let sound = volume_sound old.kept.table old.kept.states.items current h.kept.current.given in
          made_told current op done.indexes sound done.newest
          ∙ ap (λ (n : ℕ). made_between n (next_index_of (step current op done.indexes).next op)) (sym before_is)
          ∙ ap (made_between before) (sym (behind_is (step current op done.indexes).next done.keeps.current.given))
          ∙ sym made_is
