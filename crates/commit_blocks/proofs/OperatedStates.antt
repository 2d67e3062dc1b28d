-- The states of subvolumes behind an operation.
use Rattle.std.proofs.Common.{◌≡◌, ◌∙◌, ℕ, List, [], ◌∷◌, map, refl, sym, subst, inl}
use Rattle.std.specs.Prelude.{All, Contains}
use Rattle.std.proofs.lemmas.List.Elements.{All-cons, All-head, All-nil, All-tail, Contains-append_left, Contains-append_right}
use Rattle.block_table.specs.declared.tree.SubState.{SubState}
use Rattle.block_table.specs.declared.tree.Tree.{Tree}
use Rattle.block_table.specs.Table.{Table}
use Rattle.block_table.specs.TreeIn.{block_at}
use Rattle.flat_model.specs.Volume.{RunVolume}
use Rattle.table_volume.specs.Gives.{sub_reach, tree_data}
use Rattle.table_volume.specs.Running.{GivesPart, id_of}
use Rattle.tree_range.specs.Shape.{tree_reach}
use Rattle.volume_ops.specs.Done.{AreNextOf, IsNextOf}
use Rattle.volume_seal.specs.Sealed.{IsReady, states_reach}
use Rattle.commit_blocks.specs.Keeps.{BusyIsAbove, IsBusy}
use Rattle.commit_blocks.proofs.Busy.{KeepsBusy, kept_busy_above}

pub next_ids : (old new : Table) (befores afters : List SubState) → AreNextOf old new befores afters → map id_of afters ≡ map id_of befores
next_ids old new [] [] next = refl
next_ids old new [] (a ∷ afters) next = absurd next
next_ids old new (b ∷ befores) [] next = absurd next
next_ids old new (b ∷ befores) (a ∷ afters) next =
    λ i. next.0.owner i ∷ next_ids old new befores afters next.1 i

pub next_running : (old new : Table) (generation : ℕ) (befores afters : List SubState) → AreNextOf old new befores afters → All (λ (state : SubState). state.running ≡ generation) befores → All (λ (state : SubState). state.running ≡ generation) afters
next_running old new generation [] [] next all = All-nil _
next_running old new generation [] (a ∷ afters) next all = absurd next
next_running old new generation (b ∷ befores) [] next all = absurd next
next_running old new generation (b ∷ befores) (a ∷ afters) next all =
    let R : SubState → Type 0 = λ (state : SubState). state.running ≡ generation in
    All-cons R a afters (next.0.running ∙ All-head R b befores all) (next_running old new generation befores afters next.1 (All-tail R b befores all))

-- ---- no busy block stands below one that isn't

module _ (old new : Table) (fsid : List ℕ) (run now : RunVolume) where
  abbrev Ready : Table → SubState → Type 0
  Ready table state = IsReady table state.tree fsid

  abbrev Above : Table → SubState → Type 0
  Above table state = BusyIsAbove state.tree.level table state.tree.root.0

  -- blocks that stand before and behind keep their states
  abbrev AreInBoth : List ℕ → List ℕ → Type 0
  AreInBoth before after = (at : ℕ) → Contains before at → Contains after at → (block_at new at).state ≡ (block_at old at).state

  in_tree : (table : Table) (tree : Tree) (at : ℕ) → Contains (tree_reach table tree) at → Contains (sub_reach table tree) at
  in_tree table tree at here = Contains-append_left (tree_reach table tree) (tree_data table tree) at here

  one_above : (before after : SubState) → IsNextOf old new before after → GivesPart old run before → GivesPart new now after → Ready old before → Ready new after → AreInBoth (sub_reach old before.tree) (sub_reach new after.tree) → Above old before → Above new after
  one_above before after next gave gives was is both above =
      let states : (at : ℕ) → Contains (tree_reach old before.tree) at → Contains (tree_reach new after.tree) at → (block_at new at).state ≡ (block_at old at).state = λ at there here. both at (in_tree old before.tree at there) (in_tree new after.tree at here) in
      let keeps : KeepsBusy old new (tree_reach old before.tree) (tree_reach new after.tree) = record {
        clean = λ at here idle. next.kept at here (λ dirty. idle (inl dirty));
        up = λ at there here busy. subst IsBusy (sym (states at there here)) busy;
        down = λ at there here busy. subst IsBusy (states at there here) busy;
      } in
      kept_busy_above old new before.tree after.tree fsid was.written.0 is.written.0 keeps gave.gives.gives.tree_in gives.gives.gives.tree_in was.written.1 is.written.1 above

  pub next_above : (befores afters : List SubState) → AreNextOf old new befores afters → All (GivesPart old run) befores → All (GivesPart new now) afters → All (Ready old) befores → All (Ready new) afters → AreInBoth (states_reach old befores) (states_reach new afters) → All (Above old) befores → All (Above new) afters
  next_above [] [] next gave gives was is both above = All-nil _
  next_above [] (a ∷ afters) next gave gives was is both above = absurd next
  next_above (b ∷ befores) [] next gave gives was is both above = absurd next
  next_above (b ∷ befores) (a ∷ afters) next gave gives was is both above =
      All-cons (Above new) a afters
      (one_above b a next.0 (All-head (GivesPart old run) b befores gave) (All-head (GivesPart new now) a afters gives) (All-head (Ready old) b befores was) (All-head (Ready new) a afters is)
      (λ at there here. both at (Contains-append_left (sub_reach old b.tree) (states_reach old befores) at there) (Contains-append_left (sub_reach new a.tree) (states_reach new afters) at here)) (All-head (Above old) b befores above))
      (next_above befores afters next.1 (All-tail (GivesPart old run) b befores gave) (All-tail (GivesPart new now) a afters gives) (All-tail (Ready old) b befores was) (All-tail (Ready new) a afters is)
      (λ at there here. both at (Contains-append_right (sub_reach old b.tree) (states_reach old befores) at there) (Contains-append_right (sub_reach new a.tree) (states_reach new afters) at here)) (All-tail (Above old) b befores above))
