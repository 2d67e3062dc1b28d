-- States that were made so far, one bare subvolume after the other.
use Rattle.std.proofs.Common.{◌≡◌, ◌≢◌, ◌≤◌, ◌+◌, ◌*◌, ◌∙◌, length, length-append, ℕ, List, [], ◌∷◌, ◌++◌, map, sym, ap, subst, cond, nat_eq, refl, arith, inl, inr}
use Rattle.std.specs.Prelude.{All, Contains, slice_index_or}
use Rattle.std.specs.List.{flat_map}
use Rattle.std.specs.List.Sorted.{IsStrictlyIncreasing}
use Rattle.std.proofs.lemmas.Grind.{flat_map-append}
use Rattle.std.proofs.lemmas.List.{append-nil, map-append}
use Rattle.std.proofs.lemmas.List.Elements.{All-append, All-cons, All-contains, All-contains_itself, All-nil, Contains-append_cases, Contains-append_left, Contains-append_right}
use Rattle.blk_base.specs.Trees.{NoneTwice}
use Rattle.blk_base.proofs.Members.{in_nothing, once_append}
use Rattle.block_table.specs.declared.tree.SubState.{SubState}
use Rattle.block_table.specs.Table.{Table}
use Rattle.block_table.specs.TreeIn.{IsTaken, block_at}
use Rattle.block_table.specs.declared.state.SlotState.TheVariants.{Free}
use Rattle.flat_model.specs.Volume.{bare_volume, mounted, subvolume_ids}
use Rattle.tree_range.proofs.Cuts.{All-unmap}
use Rattle.tree_frame.specs.Frame.{IsEdit, TakesAtMost}
use Rattle.tree_frame.proofs.Counting.{few_blocks_in_tree}
use Rattle.tree_range.specs.Shape.{tree_items, tree_reach}
use Rattle.blk_base.specs.Leaf.{Item}
use Rattle.volume_image.specs.Bare.{bare_items}
use Rattle.volume_image.specs.Subvolume.{data_addresses}
use Rattle.tree_frame.proofs.Among.{an_edit_keeps_more}
use Rattle.tree_frame.proofs.EditLaws.{edits_join, nothing_is_an_edit}
use Rattle.tree_frame.proofs.Reading.{all_joined, flat_map_same}
use Rattle.table_volume.specs.Gives.{AreAccounted, sub_reach, tree_data}
use Rattle.table_volume.specs.Running.{GiveVolume, GivesRun, id_of}
use Rattle.table_volume.proofs.Editing.{none_lost, state_given, state_reach}
use Rattle.table_volume.proofs.Giving.{subvolume_taken}
use Rattle.bare_state.specs.Bare.{bare_run}
use Rattle.bare_volume.proofs.Numbers.{bare_only, bare_there, ids_push, ids_rise}

abbrev reach_in : Table → SubState → List ℕ
reach_in table state = sub_reach table state.tree

-- the states of the first so many subvolumes: each gives a bare one, all their blocks are new, none is of two, and they are few
pub record AreMade (old new : Table) (states : List SubState) (running count : ℕ) : Type 0 where
  pub ids : map id_of states ≡ subvolume_ids count
  pub each : All (λ state. GivesRun new state bare_run) states
  pub runs : All (λ state. state.running ≡ running) states
  pub once : NoneTwice (flat_map (reach_in new) states)
  pub edit : IsEdit old new [] (flat_map (reach_in new) states)
  pub taken : TakesAtMost old new (35 * count)
  pub few : length (flat_map (reach_in new) states) ≤ 5 * count

pub none_made : (table : Table) (running : ℕ) → AreMade table table [] running 0
none_made table running = record {
  ids = refl;
  each = All-nil _;
  runs = All-nil _;
  once = tt;
  edit = nothing_is_an_edit table [];
  taken = record { spare = omega arith; free = omega arith };
  few = omega arith;
}

-- the tree of a bare subvolume has two items and no data
pub bare_small : (table : Table) (state : SubState) (running : ℕ) → GivesRun table state bare_run → tree_items table state.tree ≡ bare_items running → length (sub_reach table state.tree) ≤ 5
bare_small table state running gives items =
    let blocks : length (tree_reach table state.tree) ≤ 2 * length (tree_items table state.tree) + 1 = few_blocks_in_tree state.tree.level table state.tree.root.0 gives.gives.tree_in.shape in
    let two : length (tree_items table state.tree) ≡ 2 = ap (λ (l : List Item). length l) items in
    let none : length (tree_data table state.tree) ≡ 0 = ap (λ (l : List Item). length (data_addresses l)) items in
    omega (arith, blocks, two, none, length-append (tree_reach table state.tree) (tree_data table state.tree))

module _ (old mid new : Table) (states : List SubState) (state : SubState) (running count : ℕ) (made : AreMade old mid states running count) (gives : GivesRun new state bare_run) (edit : IsEdit mid new [] (sub_reach new state.tree)) where
  reach : List ℕ
  reach = flat_map (reach_in mid) states

  -- none of the blocks that were made before is Free
  before_taken : All (IsTaken mid) (flat_map (reach_in mid) states)
  before_taken =
      all_joined (IsTaken mid) (reach_in mid) states (λ k d within. subvolume_taken mid _ bare_run.sub (made.each k d within).gives)

  is_taken : (at : ℕ) → Contains (flat_map (reach_in mid) states) at → (block_at mid at).state ≢ Free
  is_taken at there = (All-contains (IsTaken mid) (flat_map (reach_in mid) states) at before_taken there).taken

  before_gives : All (λ state. GivesRun new state bare_run) states
  before_gives =
      λ k d within. state_given mid new [] (sub_reach new state.tree) _ bare_run edit (made.each k d within) (λ at there none. in_nothing at none)

  before_same : flat_map (reach_in new) states ≡ flat_map (reach_in mid) states
  before_same =
      flat_map_same (reach_in new) (reach_in mid) states (λ k d within. state_reach mid new [] (sub_reach new state.tree) _ bare_run edit (made.each k d within) (λ at there none. in_nothing at none))

  all_now : flat_map (reach_in new) (states ++ state ∷ []) ≡ flat_map (reach_in mid) states ++ sub_reach new state.tree
  all_now =
      flat_map-append (reach_in new) states (state ∷ []) ∙ ap (λ (l : List ℕ). l ++ (sub_reach new state.tree ++ [])) before_same ∙ ap (λ (l : List ℕ). flat_map (reach_in mid) states ++ l) (append-nil (sub_reach new state.tree))

  edit_now : IsEdit old new [] (flat_map (reach_in mid) states ++ sub_reach new state.tree)
  edit_now =
      edits_join old mid new [] (flat_map (reach_in mid) states) (flat_map (reach_in mid) states ++ sub_reach new state.tree) made.edit
      (an_edit_keeps_more mid new [] (sub_reach new state.tree) (flat_map (reach_in mid) states) (flat_map (reach_in mid) states) (flat_map (reach_in mid) states ++ sub_reach new state.tree) edit
      (λ at there. (λ none. in_nothing at none, is_taken at there))
      (λ at. (λ there. inr there, λ either. elim either [ inl none ↦ absurd (in_nothing at none) | inr there ↦ there ]))
      (λ at. (
        λ there. elim (Contains-append_cases (flat_map (reach_in mid) states) (sub_reach new state.tree) at there) [ inl here ↦ inr here | inr here ↦ inl here ],
        λ either. elim either [ inl here ↦ Contains-append_right (flat_map (reach_in mid) states) (sub_reach new state.tree) at here | inr here ↦ Contains-append_left (flat_map (reach_in mid) states) (sub_reach new state.tree) at here ],
      )))

  once_now : NoneTwice (flat_map (reach_in mid) states ++ sub_reach new state.tree)
  once_now =
      once_append (flat_map (reach_in mid) states) (sub_reach new state.tree) made.once gives.gives.once (λ at there here. is_taken at there (edit.fresh at here (λ none. in_nothing at none)).0)

  few_now : length (sub_reach new state.tree) ≤ 5 → length (flat_map (reach_in mid) states ++ sub_reach new state.tree) ≤ 5 * (count + 1)
  few_now small = let most = made.few in omega (arith, most, small, length-append (flat_map (reach_in mid) states) (sub_reach new state.tree))

  pub one_more : id_of state ≡ cond (nat_eq count 0) 5 (255 + count) → state.running ≡ running → TakesAtMost mid new 35 → length (sub_reach new state.tree) ≤ 5 → AreMade old new (states ++ state ∷ []) running (count + 1)
  one_more id runs taken small = record {
    ids = map-append id_of states (state ∷ []) ∙ ap (λ (l : List ℕ). l ++ id_of state ∷ []) made.ids ∙ sym (ids_push count (id_of state) id);
    each = All-append (λ (s : SubState). GivesRun new s bare_run) states (state ∷ []) before_gives (All-cons (λ (s : SubState). GivesRun new s bare_run) state [] gives (All-nil _));
    runs = All-append (λ (s : SubState). s.running ≡ running) states (state ∷ []) made.runs (All-cons (λ (s : SubState). s.running ≡ running) state [] runs (All-nil _));
    once = subst NoneTwice (sym all_now) once_now;
    edit = subst (IsEdit old new []) (sym all_now) edit_now;
    taken = record { spare = omega (arith, made.taken.spare, taken.spare); free = omega (arith, made.taken.free, taken.free) };
    few = subst (λ (reach : List ℕ). length reach ≤ 5 * (count + 1)) (sym all_now) (few_now small);
  }

module _ (old new : Table) (states : List SubState) (running count : ℕ) (made : AreMade old new states running count) where
  part : (id : ℕ) → Contains (map id_of states) id → Contains (subvolume_ids count) id
  part id there = subst (λ (l : List ℕ). Contains l id) made.ids there

  pub made_given : GiveVolume new states (mounted (bare_volume count))
  made_given = record {
    rising = subst IsStrictlyIncreasing (sym made.ids) (ids_rise count);
    each = λ k d within. record {
      sub = bare_run;
      there = bare_there count (id_of (slice_index_or states k d)) (part (id_of (slice_index_or states k d)) (All-unmap (Contains (map id_of states)) id_of states (All-contains_itself (map id_of states)) k d within));
      gives = made.each k d within;
    };
    only = λ id sub there. subst (λ (l : List ℕ). Contains l id) (sym made.ids) (bare_only count id sub there);
    once = made.once;
  }

  pub made_accounted : AreAccounted old [] → AreAccounted new (flat_map (reach_in new) states)
  made_accounted accounted =
      none_lost old new [] (flat_map (reach_in new) states) [] (flat_map (reach_in new) states) made.edit accounted (λ at none gone. absurd (in_nothing at none)) (λ at here. here)
