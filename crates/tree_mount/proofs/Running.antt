-- The states of trees, one after another.
use Rattle.std.proofs.Common.{◌≡◌, ◌<◌, ◌+◌, ◌++◌, ◌∷◌, [], ℕ, List, length, map, Contains, take, sym, ap, subst, ◌∙◌}
use Rattle.std.specs.Prelude.{slice_index_or}
use Rattle.std.proofs.lemmas.List.{map-append}
use Rattle.blk_base.specs.declared.key.Want.{Want}
use Rattle.block_table.specs.declared.tree.SubState.{SubState}
use Rattle.block_table.specs.declared.tree.Tree.{Tree}
use Rattle.block_table.specs.Table.{Table}
use Rattle.flat_model.specs.Coherent.{IsCoherent}
use Rattle.flat_model.specs.Volume.{Subvolume, numbers_at_mount}
use Rattle.table_volume.specs.Gives.{GivesSubvolume, sub_reach}
use Rattle.table_volume.specs.Running.{GivesRun}
use Rattle.tree_frame.specs.Frame.{AreCurrent}
use Rattle.tree_load.specs.Loaded.{tree_wanted}
use Rattle.tree_mount.specs.Mounted.{IsRunState}
use Rattle.tree_mount.proofs.Lists.{each_alone, each_joined, one_more}

pub run_by : (table : Table) (running : ℕ) (state : SubState) (tree : Tree) → state.running ≡ running → state.tree ≡ tree
    → ((sub : Subvolume) → GivesSubvolume table tree sub → IsCoherent sub → AreCurrent table (sub_reach table tree) → GivesRun table state (record { sub = sub; numbers = numbers_at_mount sub })) → IsRunState table running state
run_by table running state tree running_is tree_is gives = record {
  running_is = running_is;
  gives = λ sub has coherent current. gives sub (subst (λ (t : Tree). GivesSubvolume table t sub) tree_is has) coherent (subst (λ (t : Tree). AreCurrent table (sub_reach table t)) tree_is current);
}

pub each_state : (table : Table) (running : ℕ) (states now : List SubState) (state : SubState) → now ≡ states ++ state ∷ [] → ((s : SubState) → Contains states s → IsRunState table running s) → IsRunState table running state → (s : SubState) → Contains now s → IsRunState table running s
each_state table running states now state is before here s c = each_joined (IsRunState table running) states (state ∷ []) before (each_alone (IsRunState table running) state here) s (subst (λ (l : List SubState). Contains l s) is c)

pub trees_more : (wants : List Want) (place : ℕ) (d : Want) (states now : List SubState) (state : SubState) (tree : Tree) → tree ≡ tree_wanted (slice_index_or wants place d) → place < length wants → state.tree ≡ tree → now ≡ states ++ state ∷ []
    → map (λ (s : SubState). s.tree) states ≡ map tree_wanted (take place wants) → map (λ (s : SubState). s.tree) now ≡ map tree_wanted (take (place + 1) wants)
trees_more wants place d states now state tree is inside tree_is now_is before =
    let want : Want = slice_index_or wants place d in
    ap (map (λ (s : SubState). s.tree)) now_is ∙ map-append (λ (s : SubState). s.tree) states (state ∷ [])
    ∙ (λ i. before i ++ (tree_is ∙ is) i ∷ []) ∙ sym (map-append tree_wanted (take place wants) (want ∷ [])) ∙ sym (ap (map tree_wanted) (one_more wants place d inside))
