-- States whose new items bear another generation give what they gave.
use Rattle.std.proofs.Common.{◌≡◌, ◌++◌, ℕ, suc, List, [], ◌∷◌, length, map, refl, sym, ap, subst}
use Rattle.std.specs.Prelude.{All, Contains}
use Rattle.std.proofs.lemmas.List.Elements.{All-cons, All-head, All-nil, All-tail}
use Rattle.std.specs.List.Sorted.{IsStrictlyIncreasing}
use Rattle.blk_base.specs.Trees.{NoneTwice}
use Rattle.block_table.specs.declared.tree.SubState.{SubState}
use Rattle.block_table.specs.Table.{Table}
use Rattle.flat_model.specs.Volume.{RunVolume}
use Rattle.table_volume.specs.Gives.{sub_reach}
use Rattle.table_volume.specs.Running.{GiveVolume, GivesPart, id_of}
use Rattle.volume_seal.specs.Sealed.{states_reach}
use Rattle.commit_blocks.specs.Steps.{with_running}

abbrev pub set_running : ℕ → SubState → SubState
set_running generation state = record state { running = generation }

pub running_reach : (table : Table) (generation : ℕ) (states : List SubState) → states_reach table (with_running generation states) ≡ states_reach table states
running_reach table generation [] = refl
running_reach table generation (state ∷ states) = ap (λ (l : List ℕ). sub_reach table state.tree ++ l) (running_reach table generation states)

pub running_ids : (generation : ℕ) (states : List SubState) → map id_of (with_running generation states) ≡ map id_of states
running_ids generation [] = refl
running_ids generation (state ∷ states) = ap (λ (l : List ℕ). id_of state ∷ l) (running_ids generation states)

pub running_length : (generation : ℕ) (states : List SubState) → length (with_running generation states) ≡ length states
running_length generation [] = refl
running_length generation (state ∷ states) = ap (λ (n : ℕ). suc n) (running_length generation states)

pub running_all : (P Q : SubState → Type 0) (generation : ℕ) (states : List SubState) → ((state : SubState) → P state → Q (set_running generation state)) → All P states → All Q (with_running generation states)
running_all P Q generation [] step all = All-nil Q
running_all P Q generation (state ∷ states) step all =
    All-cons Q (set_running generation state) (with_running generation states) (step state (All-head P state states all)) (running_all P Q generation states step (All-tail P state states all))

part_running : (table : Table) (run : RunVolume) (generation : ℕ) (state : SubState) → GivesPart table run state → GivesPart table run (set_running generation state)
part_running table run generation state part = record {
  sub = part.sub;
  there = part.there;
  gives = record { gives = part.gives.gives; current = part.gives.current; sound = part.gives.sound; next_ino = part.gives.next_ino; next_index = part.gives.next_index };
}

pub running_given : (table : Table) (generation : ℕ) (states : List SubState) (run : RunVolume) → GiveVolume table states run → GiveVolume table (with_running generation states) run
running_given table generation states run given = record {
  rising = subst IsStrictlyIncreasing (sym (running_ids generation states)) given.rising;
  each = running_all (GivesPart table run) (GivesPart table run) generation states (part_running table run generation) given.each;
  only = λ id sub there. subst (λ (l : List ℕ). Contains l id) (sym (running_ids generation states)) (given.only id sub there);
  once = subst NoneTwice (sym (running_reach table generation states)) given.once;
}
