-- The trees of new subvolumes, once the place in front of them is Free again.
use Rattle.std.proofs.Common.{◌≡◌, ◌≢◌, ◌≤◌, ◌<◌, ◌+◌, ◌*◌, ◌∷◌, [], ◌⊎◌, ◌∙◌, ℕ, List, length, map, slice_index_or, true, refl, sym, ap, subst, arith, inl, inr}
use Rattle.std.specs.Prelude.{All, Contains}
use Rattle.std.proofs.lemmas.List.Elements.{All-contains, All-contains_itself, All-weaker}
use Rattle.blk_base.specs.Trees.{NoneTwice}
use Rattle.blk_base.proofs.Members.{in_head, in_nothing, in_one}
use Rattle.block_table.specs.declared.state.SlotState.TheVariants.{Dirty, Free}
use Rattle.block_table.specs.declared.tree.SubState.{SubState}
use Rattle.blk_base.specs.Address.{IsAllowed}
use Rattle.block_table.specs.Slot.{BlockSlot}
use Rattle.block_table.specs.Table.{Table}
use Rattle.block_table.specs.TreeIn.{IsTaken, block_at}
use Rattle.flat_model.specs.Volume.{bare_volume, mounted, subvolume_ids}
use Rattle.block_table.specs.declared.tree.Tree.{Tree}
use Rattle.tree_range.specs.Shape.{IsTree, tree_reach}
use Rattle.tree_seal.proofs.Walk.{reach_itself}
use Rattle.tree_frame.specs.Frame.{IsEdit}
use Rattle.tree_frame.proofs.EditLaws.{same_unless_free}
use Rattle.tree_frame.proofs.Reading.{flat_map_same, reach_taken}
use Rattle.table_volume.specs.Gives.{sub_reach}
use Rattle.table_volume.specs.Running.{GiveVolume, GivesPart, id_of}
use Rattle.table_volume.proofs.Editing.{state_given, state_reach}
use Rattle.volume_image.proofs.Members.{flat_map_in}
use Rattle.volume_seal.specs.Sealed.{states_reach}
use Rattle.volume_mkfs.specs.Empty.{AreFresh}

abbrev reach_in : Table → SubState → List ℕ
reach_in table state = sub_reach table state.tree

-- a block that is taken, and that an edit which only takes blocks leaves as it is
pub still_same : (old new : Table) (after : List ℕ) (at : ℕ) → IsEdit old new [] after → IsTaken old at → block_at new at ≡ block_at old at
still_same old new after at edit taken =
    let apart : Contains after at → ⊥ = λ there. taken.taken (edit.fresh at there (in_nothing at)).0 in
    same_unless_free (block_at old at) (block_at new at) (edit.others at (in_nothing at) apart) taken.taken

pub root_taken : (table : Table) (tree : Tree) → IsTree table tree → IsTaken table tree.root.0
root_taken table tree stands =
    All-contains (IsTaken table) (tree_reach table tree) tree.root.0 (reach_taken tree.level table true tree.root.0 stands.shape) (reach_itself tree.level table tree.root.0)

pub still_taken : (old new : Table) (after : List ℕ) (at : ℕ) → IsEdit old new [] after → IsTaken old at → IsTaken new at
still_taken old new after at edit taken =
    let same : block_at new at ≡ block_at old at = still_same old new after at edit taken in record {
      allowed = subst (λ (n : ℕ). IsAllowed n at) (sym edit.size) taken.allowed;
      taken = λ free. taken.taken (ap (λ (slot : BlockSlot). slot.state) (sym same) ∙ free);
    }

module _ (first mid last : Table) (place : ℕ) (states : List SubState) (subs : ℕ) (there : IsTaken first place) (given : GiveVolume mid states (mounted (bare_volume subs))) (ids : map id_of states ≡ subvolume_ids subs) (edit : IsEdit first mid [] (states_reach mid states)) (few : length (states_reach mid states) ≤ 5 * subs)
    (gone : IsEdit mid last (place ∷ []) []) where
  -- the place is none of theirs
  apart : (at : ℕ) → Contains (states_reach mid states) at → Contains (place ∷ []) at → ⊥
  apart at here is = there.taken ((edit.fresh place (subst (λ (n : ℕ). Contains (states_reach mid states) n) (sym (in_one place at is)) here) (in_nothing place)).0)

  apart_in : (k : ℕ) (d : SubState) → k < length states → (at : ℕ) → Contains (reach_in mid (slice_index_or states k d)) at → Contains (place ∷ []) at → ⊥
  apart_in k d within at here is = apart at (flat_map_in (reach_in mid) states (slice_index_or states k d) at (All-contains_itself states k d within) here) is

  same : states_reach last states ≡ states_reach mid states
  same =
      flat_map_same (reach_in last) (reach_in mid) states (λ k d within. let part = given.each k d within in state_reach mid last (place ∷ []) [] (slice_index_or states k d) part.sub gone part.gives (apart_in k d within))

  dirty_at : (at : ℕ) → Contains (states_reach mid states) at → (block_at last at).state ≡ Dirty
  dirty_at at here =
      let was : (block_at mid at).state ≡ Dirty = (edit.fresh at here (in_nothing at)).1 in
      let kept : block_at last at ≡ block_at mid at = same_unless_free (block_at mid at) (block_at last at) (gone.others at (apart at here) (in_nothing at)) (λ free. absurd (cc)) in
      ap (λ (slot : BlockSlot). slot.state) kept ∙ was

  pub still_fresh : AreFresh last states subs
  still_fresh = record {
    given = record {
      rising = given.rising;
      each = λ k d within. let part = given.each k d within in record {
        sub = part.sub;
        there = part.there;
        gives = state_given mid last (place ∷ []) [] (slice_index_or states k d) part.sub gone part.gives (apart_in k d within);
      };
      only = given.only;
      once = subst NoneTwice (sym same) given.once;
    };
    ids = ids;
    few = subst (λ (l : List ℕ). length l ≤ 5 * subs) (sym same) few;
    dirty = subst (λ (l : List ℕ). All (λ (at : ℕ). (block_at last at).state ≡ Dirty) l) (sym same)
        (All-weaker (Contains (states_reach mid states)) (λ (at : ℕ). (block_at last at).state ≡ Dirty) dirty_at (states_reach mid states) (All-contains_itself (states_reach mid states)));
  }
