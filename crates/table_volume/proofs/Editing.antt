-- Edits of a subvolume's tree and data, and what an edit leaves of other subvolumes.
use Rattle.std.proofs.Common.{◌≡◌, ◌≢◌, ◌∙◌, ℕ, List, [], ◌++◌, sym, ap, subst, inl, inr}
use Rattle.std.specs.Prelude.{All, Contains}
use Rattle.std.proofs.lemmas.List.Elements.{All-contains, All-contains_itself, All-weaker}
use Rattle.std.proofs.lemmas.List.{append-nil}
use Rattle.blk_base.specs.Trees.{NoneTwice}
use Rattle.blk_base.proofs.Members.{is_in}
use Rattle.block_table.specs.declared.state.SlotState.TheVariants.{Dirty, LetGo}
use Rattle.block_table.specs.declared.tree.SubState.{SubState}
use Rattle.block_table.specs.declared.tree.Tree.{Tree}
use Rattle.block_table.specs.Slot.{BlockSlot}
use Rattle.block_table.specs.Table.{Table}
use Rattle.block_table.specs.TreeIn.{IsTaken, block_at}
use Rattle.tree_range.specs.Shape.{AreAlike, tree_reach}
use Rattle.tree_frame.specs.Frame.{AreCurrent, AreReadable, IsEdit}
use Rattle.tree_frame.proofs.EditLaws.{is_dirty}
use Rattle.tree_frame.proofs.Among.{alike_left, alike_right, apart_alike, edit_among, once_among}
use Rattle.tree_frame.proofs.OtherTrees.{an_edit_leaves_readable}
use Rattle.tree_frame.proofs.Reading.{IsReadable}
use Rattle.flat_model.specs.Volume.{RunSub, Subvolume}
use Rattle.table_volume.specs.Gives.{AreAccounted, GivesSubvolume, sub_reach, tree_data}
use Rattle.table_volume.specs.Running.{GivesRun}
use Rattle.table_volume.proofs.Giving.{gives_by_bytes, read_sub, subvolume_taken}

-- ---- an edit of a part of a subvolume

module _ (old new : Table) (tree : Tree) (sub : Subvolume) (after : List ℕ) (gives : GivesSubvolume old tree sub) where
  taken : All (IsTaken old) (sub_reach old tree)
  taken = subvolume_taken old tree sub gives

  pub tree_edit : IsEdit old new (tree_reach old tree) after → IsEdit old new (sub_reach old tree) (after ++ tree_data old tree)
  tree_edit edit = edit_among old new [] (tree_reach old tree) after (tree_data old tree) edit gives.once taken

  pub tree_edit_data : IsEdit old new (tree_reach old tree) after → AreAlike old new (tree_data old tree)
  tree_edit_data edit =
      alike_right old new [] (tree_reach old tree) after (tree_data old tree) edit gives.once taken

  pub tree_edit_once : IsEdit old new (tree_reach old tree) after → NoneTwice after → NoneTwice (after ++ tree_data old tree)
  tree_edit_once edit once =
      once_among old new [] (tree_reach old tree) after (tree_data old tree) edit gives.once taken once

  -- the same list, with nothing behind it
  behind : (xs : List ℕ) → tree_reach old tree ++ (xs ++ []) ≡ tree_reach old tree ++ xs
  behind xs = ap (λ (l : List ℕ). tree_reach old tree ++ l) (append-nil xs)

  once_behind : NoneTwice (tree_reach old tree ++ (tree_data old tree ++ []))
  once_behind = subst NoneTwice (sym (behind (tree_data old tree))) gives.once

  taken_behind : All (IsTaken old) (tree_reach old tree ++ (tree_data old tree ++ []))
  taken_behind = subst (λ (l : List ℕ). All (IsTaken old) l) (sym (behind (tree_data old tree))) taken

  pub data_edit : IsEdit old new (tree_data old tree) after → IsEdit old new (sub_reach old tree) (tree_reach old tree ++ after)
  data_edit edit =
      let whole : IsEdit old new (tree_reach old tree ++ (tree_data old tree ++ [])) (tree_reach old tree ++ (after ++ [])) = edit_among old new (tree_reach old tree) (tree_data old tree) after [] edit once_behind taken_behind in
      subst (λ (l : List ℕ). IsEdit old new (sub_reach old tree) l) (behind after) (subst (λ (l : List ℕ). IsEdit old new l (tree_reach old tree ++ (after ++ []))) (behind (tree_data old tree)) whole)

  pub data_edit_tree : IsEdit old new (tree_data old tree) after → AreAlike old new (tree_reach old tree)
  data_edit_tree edit =
      alike_left old new (tree_reach old tree) (tree_data old tree) after [] edit once_behind taken_behind

  pub data_edit_once : IsEdit old new (tree_data old tree) after → NoneTwice after → NoneTwice (tree_reach old tree ++ after)
  data_edit_once edit once =
      subst NoneTwice (behind after) (once_among old new (tree_reach old tree) (tree_data old tree) after [] edit once_behind taken_behind once)

-- ---- what an edit leaves of other subvolumes

readable_after : (old new : Table) (before after : List ℕ) (tree : Tree) (sub : Subvolume) → IsEdit old new before after → GivesSubvolume old tree sub → ((at : ℕ) → Contains (sub_reach old tree) at → Contains before at → (block_at old at).state ≢ Dirty) → AreReadable old new (sub_reach old tree)
readable_after old new before after tree sub edit gives written =
    let reach = sub_reach old tree in
    All-weaker (Contains reach) (IsReadable old new) (λ at there. an_edit_leaves_readable old new before after at edit (All-contains (IsTaken old) reach at (subvolume_taken old tree sub gives) there) (written at there)) reach (All-contains_itself reach)

pub other_given : (old new : Table) (before after : List ℕ) (tree : Tree) (sub : Subvolume) → IsEdit old new before after → GivesSubvolume old tree sub → ((at : ℕ) → Contains (sub_reach old tree) at → Contains before at → (block_at old at).state ≢ Dirty) → GivesSubvolume new tree sub
other_given old new before after tree sub edit gives written =
    gives_by_bytes old new tree sub (readable_after old new before after tree sub edit gives written) gives

pub other_reach : (old new : Table) (before after : List ℕ) (tree : Tree) (sub : Subvolume) → IsEdit old new before after → GivesSubvolume old tree sub → ((at : ℕ) → Contains (sub_reach old tree) at → Contains before at → (block_at old at).state ≢ Dirty) → sub_reach new tree ≡ sub_reach old tree
other_reach old new before after tree sub edit gives written =
    (read_sub old new tree (readable_after old new before after tree sub edit gives written)).reach_same

module _ (old new : Table) (before after : List ℕ) (state : SubState) (run : RunSub) (edit : IsEdit old new before after) (gives : GivesRun old state run) (apart : (at : ℕ) → Contains (sub_reach old state.tree) at → Contains before at → ⊥) where
  pub state_alike : AreAlike old new (sub_reach old state.tree)
  state_alike =
      let reach = sub_reach old state.tree in
      apart_alike old new before after reach edit (λ at there. (apart at there, (All-contains (IsTaken old) reach at (subvolume_taken old state.tree run.sub gives.gives) there).taken))

  pub state_reach : sub_reach new state.tree ≡ sub_reach old state.tree
  state_reach =
      other_reach old new before after state.tree run.sub edit gives.gives (λ at there is. absurd (apart at there is))

  current_now : AreCurrent new (sub_reach old state.tree)
  current_now =
      let reach = sub_reach old state.tree in
      All-weaker (Contains reach) (λ (at : ℕ). (block_at new at).state ≢ LetGo) (λ at there. let same : block_at new at ≡ block_at old at = All-contains (λ (a : ℕ). block_at new a ≡ block_at old a) reach at state_alike there in λ gone. All-contains (λ (a : ℕ). (block_at old a).state ≢ LetGo) reach at gives.current there (sym (ap (λ (slot : BlockSlot). slot.state) same) ∙ gone)) reach (All-contains_itself reach)

  pub state_given : GivesRun new state run
  state_given = record {
    gives = other_given old new before after state.tree run.sub edit gives.gives (λ at there is. absurd (apart at there is));
    current = subst (λ (l : List ℕ). AreCurrent new l) (sym state_reach) current_now;
    sound = gives.sound;
    next_ino = gives.next_ino;
    next_index = gives.next_index;
  }

-- ---- no block is lost

pub none_lost : (old new : Table) (before after reach further : List ℕ) → IsEdit old new before after → AreAccounted old reach → ((at : ℕ) → Contains reach at → (Contains before at → ⊥) → Contains further at) → ((at : ℕ) → Contains after at → Contains further at) → AreAccounted new further
none_lost old new before after reach further edit accounted stays comes at taken current = elim (is_in after at) [
  | inl here ↦ comes at here
  | inr gone ↦ elim (is_in before at) [
    | inl there ↦ absurd (elim (is_dirty (block_at old at).state) [
      | inl dirty ↦ taken ((edit.left at there gone).dirty dirty)
      | inr written ↦ current (ap (λ (slot : BlockSlot). slot.state) ((edit.left at there gone).written written))
    ])
    | inr none ↦ elim (edit.others at none gone) [
      | inl same ↦ stays at (accounted at (λ free. taken (ap (λ (slot : BlockSlot). slot.state) same ∙ free)) (λ let_go. current (ap (λ (slot : BlockSlot). slot.state) same ∙ let_go))) none
      | inr both ↦ absurd (taken both.after)
    ]
  ]
]
