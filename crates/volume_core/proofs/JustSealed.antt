-- Whether the last event is a seal of the whole volume, and what stays as it left it.
use Rattle.std.proofs.Common.{◌≡◌, ◌∙◌, ℕ, List, [], ◌∷◌, ◌++◌, Option, None, Some, length, refl, sym, ap, subst}
use Rattle.std.specs.Prelude.{Contains}
use Rattle.block_table.specs.declared.state.SlotState.TheVariants.{LetGo}
use Rattle.block_table.specs.Table.{Table, with_spare}
use Rattle.block_table.specs.TreeIn.{block_at}
use Rattle.commit_history.specs.declared.event.Event.{Event}
use Rattle.flat_model.proofs.Maps.{some_none, some_same}
use Rattle.table_commit.specs.Commit.{addresses_of}
use Rattle.tree_range.specs.Shape.{tree_items, tree_reach}
use Rattle.volume_seal.proofs.States.{same_tree}
use Rattle.commit_blocks.specs.declared.kept.Kept.{Kept}
use Rattle.commit_blocks.specs.Steps.{HasMoreSpare}
use Rattle.commit_blocks.proofs.Read.{each}
use Rattle.volume_core.specs.Keeps.{IsJustOut}

-- ---- the last event

abbrev last_in : List Event → Option Event
last_in [] = None
last_in (one ∷ []) = Some one
last_in (one ∷ two ∷ events) = last_in (two ∷ events)

last_is : (events : List Event) (came : Event) → last_in (events ++ came ∷ []) ≡ Some came
last_is [] came = refl
last_is (one ∷ []) came = refl
last_is (one ∷ two ∷ events) came = last_is (two ∷ events) came

pub same_last : (events front : List Event) (came other : Event) → events ++ came ∷ [] ≡ front ++ other ∷ [] → came ≡ other
same_last events front came other same = some_same came other (sym (last_is events came) ∙ ap last_in same ∙ last_is front other)

pub none_last : (front : List Event) (came : Event) → [] ≡ front ++ came ∷ [] → ⊥
none_last front came same = some_none came (sym (last_is front came) ∙ ap last_in (sym same))

-- ---- what stays

-- with the same blocks, states and notes
pub same_just : (old new : Kept) → new.table ≡ old.table → new.states.items ≡ old.states.items → new.let_go ≡ old.let_go → new.sealed ≡ old.sealed → IsJustOut old → IsJustOut new
same_just old new table states noted sealed just = record {
  let_go = λ at gone. subst (λ l. Contains (addresses_of l.items) at) (sym noted) (just.let_go at (subst (λ (t : Table). (block_at t at).state ≡ LetGo) table gone));
  roots = λ root is. ap (λ (t : Table). length (tree_items t root)) table ∙ just.roots root (sym sealed ∙ is) ∙ ap length (sym states);
}

with_buffers : (old : Kept) (spare : ℕ) → IsJustOut old → IsJustOut (record old { table = with_spare old.table spare })
with_buffers old spare just = record {
  let_go = λ at gone. just.let_go at gone;
  roots = λ root is.
      ap length (same_tree old.table (with_spare old.table spare) root (each (λ (at : ℕ). block_at (with_spare old.table spare) at ≡ block_at old.table at) (tree_reach old.table root) (λ at there. refl))).items
      ∙ just.roots root is;
}

-- with more buffers
pub more_just : (old new : Kept) → HasMoreSpare old new → IsJustOut old → IsJustOut new
more_just old new more just = subst IsJustOut (sym more.same) (with_buffers old new.table.spare just)
