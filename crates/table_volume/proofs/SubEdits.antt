-- Edits of one subvolume and of one tree, one behind the other, and an edit of a tree as one of its subvolume.
use Rattle.std.proofs.Common.{◌≡◌, ◌≢◌, ◌≤◌, ◌+◌, ◌∙◌, ℕ, List, [], ◌++◌, length, refl, sym, ap, subst, arith, inl, inr}
use Rattle.std.specs.Prelude.{All, Contains, slice_index_or}
use Rattle.std.proofs.lemmas.List.Elements.{All-append, All-contains}
use Rattle.blk_base.specs.Address.{IsAllowed}
use Rattle.blk_base.specs.Trees.{NoneTwice}
use Rattle.blk_base.proofs.Members.{is_in}
use Rattle.block_table.specs.declared.state.SlotState.TheVariants.{LetGo}
use Rattle.block_table.specs.declared.tree.SubState.{SubState}
use Rattle.block_table.specs.declared.tree.Tree.{Tree}
use Rattle.block_table.specs.Slot.{BlockSlot}
use Rattle.block_table.specs.Table.{Table}
use Rattle.block_table.specs.TreeIn.{IsTaken, block_at}
use Rattle.tree_range.specs.Shape.{AreAlike, IsTree, tree_items, tree_reach}
use Rattle.tree_range.proofs.Local.{tree_alike}
use Rattle.tree_range.proofs.Rise.{All-right}
use Rattle.tree_frame.specs.Frame.{AreCurrent, IsEdit, TakesAtMost}
use Rattle.tree_frame.proofs.Among.{alike_right, edit_among, once_among}
use Rattle.tree_frame.proofs.EditLaws.{edits_join, nothing_is_an_edit}
use Rattle.flat_model.specs.Volume.{Subvolume}
use Rattle.volume_image.specs.Subvolume.{AreItemsOf}
use Rattle.volume_image.proofs.Standing.{items_local}
use Rattle.table_volume.specs.Edited.{BearGeneration, IsSubEdit, KeepsClean}
use Rattle.table_volume.specs.TreeEdit.{IsTreeEdit}
use Rattle.table_volume.specs.Gives.{GivesSubvolume, bytes_there, data_in, sub_reach, tree_data}
use Rattle.table_volume.proofs.Giving.{subvolume_taken}
use Rattle.table_volume.proofs.Items.{bear_joined, nothing_bears}

taken_joined : (old mid new : Table) (n m : ℕ) → TakesAtMost old mid n → TakesAtMost mid new m → TakesAtMost old new (n + m)
taken_joined old mid new n m one two = record {
  spare = omega (arith, one.spare, two.spare);
  free = omega (arith, one.free, two.free);
}

takes_nothing : (table : Table) → TakesAtMost table table 0
takes_nothing table = record { spare = omega arith; free = omega arith }

takes_more : (old new : Table) (n m : ℕ) → TakesAtMost old new n → n ≤ m → TakesAtMost old new m
takes_more old new n m one less = record {
  spare = omega (arith, one.spare, less);
  free = omega (arith, one.free, less);
}

-- ---- blocks that aren't Dirty

pub clean_joined : (old mid new : Table) (a b c : Tree) → KeepsClean old mid a b → KeepsClean mid new b c → KeepsClean old new a c
clean_joined old mid new a b c one two at there clean =
    let later = two at there clean in
    let before = one at later.0 (λ dirty. clean (ap (λ (slot : BlockSlot). slot.state) later.1 ∙ dirty)) in
    (before.0, later.1 ∙ before.1)

pub clean_nothing : (table : Table) (tree : Tree) → KeepsClean table table tree tree
clean_nothing table tree at there clean = (there, refl)

-- where the tree's blocks stay as they are
pub alike_keeps_clean : (old new : Table) (tree : Tree) → AreAlike old new (tree_reach old tree) → KeepsClean old new tree tree
alike_keeps_clean old new tree alike at there clean =
    let was : Contains (tree_reach old tree) at = subst (λ (l : List ℕ). Contains l at) (tree_alike old new tree alike).1 there in
    (was, All-contains (λ (a : ℕ). block_at new a ≡ block_at old a) (tree_reach old tree) at alike was)

-- an edit of the tree alone keeps them
pub tree_keeps_clean : (old new : Table) (before after : Tree) → IsEdit old new (tree_reach old before) (tree_reach new after) → KeepsClean old new before after
tree_keeps_clean old new before after edit at there clean = elim (is_in (tree_reach old before) at) [
  | inl was ↦ (was, edit.kept_whole at was there (λ dirty. clean (edit.kept at was there ∙ dirty)))
  | inr none ↦ absurd (clean (edit.fresh at there none).1)
]

-- ---- of a subvolume

pub sub_joined : (old mid new : Table) (a b c : SubState) (n m : ℕ) → IsSubEdit old mid a b n → IsSubEdit mid new b c m → IsSubEdit old new a c (n + m)
sub_joined old mid new a b c n m one two = record {
  edit = edits_join old mid new (sub_reach old a.tree) (sub_reach mid b.tree) (sub_reach new c.tree) one.edit two.edit;
  current = two.current;
  kept = clean_joined old mid new a.tree b.tree c.tree one.kept two.kept;
  sealed = λ fsid was h. let middle = one.sealed fsid was h in two.sealed fsid middle.0 middle.1;
  owner = two.owner ∙ one.owner;
  running = two.running ∙ one.running;
  bear = bear_joined a.running (tree_items old a.tree) (tree_items mid b.tree) (tree_items new c.tree) one.bear (subst (λ (r : ℕ). BearGeneration r (tree_items mid b.tree) (tree_items new c.tree)) one.running two.bear);
  taken = taken_joined old mid new n m one.taken two.taken;
}

pub sub_nothing : (table : Table) (state : SubState) → AreCurrent table (sub_reach table state.tree) → IsSubEdit table table state state 0
sub_nothing table state current = record {
  edit = nothing_is_an_edit table (sub_reach table state.tree);
  current = current;
  kept = clean_nothing table state.tree;
  sealed = λ fsid was h. (was, h);
  owner = refl;
  running = refl;
  bear = nothing_bears state.running (tree_items table state.tree);
  taken = takes_nothing table;
}

pub sub_more : (old new : Table) (a b : SubState) (n m : ℕ) → IsSubEdit old new a b n → n ≤ m → IsSubEdit old new a b m
sub_more old new a b n m one less = record {
  edit = one.edit;
  current = one.current;
  kept = one.kept;
  sealed = one.sealed;
  owner = one.owner;
  running = one.running;
  bear = one.bear;
  taken = takes_more old new n m one.taken less;
}

-- ---- of a tree

pub tree_joined : (old mid new : Table) (a b c : Tree) (running n m : ℕ) → IsTreeEdit old mid a b running n → IsTreeEdit mid new b c running m → IsTreeEdit old new a c running (n + m)
tree_joined old mid new a b c running n m one two = record {
  tree = two.tree;
  owner = two.owner ∙ one.owner;
  edit = edits_join old mid new (tree_reach old a) (tree_reach mid b) (tree_reach new c) one.edit two.edit;
  current = two.current;
  sealed = λ fsid was h. let middle = one.sealed fsid was h in two.sealed fsid middle.0 middle.1;
  bear = bear_joined running (tree_items old a) (tree_items mid b) (tree_items new c) one.bear two.bear;
  taken = taken_joined old mid new n m one.taken two.taken;
}

pub tree_nothing : (table : Table) (tree : Tree) (running : ℕ) → IsTree table tree → AreCurrent table (tree_reach table tree) → IsTreeEdit table table tree tree running 0
tree_nothing table tree running stands current = record {
  tree = stands;
  owner = refl;
  edit = nothing_is_an_edit table (tree_reach table tree);
  current = current;
  sealed = λ fsid was h. (was, h);
  bear = nothing_bears running (tree_items table tree);
  taken = takes_nothing table;
}

pub tree_more : (old new : Table) (a b : Tree) (running n m : ℕ) → IsTreeEdit old new a b running n → n ≤ m → IsTreeEdit old new a b running m
tree_more old new a b running n m one less = record {
  tree = one.tree;
  owner = one.owner;
  edit = one.edit;
  current = one.current;
  sealed = one.sealed;
  bear = one.bear;
  taken = takes_more old new n m one.taken less;
}

-- ---- of a tree beside data

module _ (old new : Table) (before after : Tree) (running most : ℕ) (data_at : List ℕ) (once : NoneTwice (tree_reach old before ++ data_at)) (taken : All (IsTaken old) (tree_reach old before ++ data_at)) (edit : IsTreeEdit old new before after running most) where
  pub beside_edit : IsEdit old new (tree_reach old before ++ data_at) (tree_reach new after ++ data_at)
  beside_edit = edit_among old new [] (tree_reach old before) (tree_reach new after) data_at edit.edit once taken

  pub beside_once : NoneTwice (tree_reach new after ++ data_at)
  beside_once =
      once_among old new [] (tree_reach old before) (tree_reach new after) data_at edit.edit once taken edit.tree.once

  pub beside_alike : AreAlike old new data_at
  beside_alike =
      alike_right old new [] (tree_reach old before) (tree_reach new after) data_at edit.edit once taken

-- ---- of a tree as one of its subvolume

-- blocks that stay as they were are as current as they were, and as much taken
alike_current : (old new : Table) (reach : List ℕ) → AreAlike old new reach → AreCurrent old reach → AreCurrent new reach
alike_current old new reach alike current =
    λ k d within gone. current k d within (sym (ap (λ (slot : BlockSlot). slot.state) (alike k d within)) ∙ gone)

-- such blocks are as much taken as they were
still_taken : (old new : Table) → length new.slots ≡ length old.slots → (at : ℕ) → block_at new at ≡ block_at old at → IsTaken old at → IsTaken new at
still_taken old new size at same was = record {
  allowed = subst (λ (n : ℕ). IsAllowed n at) (sym size) was.allowed;
  taken = λ free. was.taken (sym (ap (λ (slot : BlockSlot). slot.state) same) ∙ free);
}

stay_taken : (old new : Table) → length new.slots ≡ length old.slots → (reach : List ℕ) → AreAlike old new reach → All (IsTaken old) reach → All (IsTaken new) reach
stay_taken old new size reach alike all =
    λ k d within. still_taken old new size (slice_index_or reach k d) (alike k d within) (all k d within)

pub tree_as_sub : (old new : Table) (before after : SubState) (sub : Subvolume) (most : ℕ) → GivesSubvolume old before.tree sub → AreCurrent old (sub_reach old before.tree)
    → IsTreeEdit old new before.tree after.tree before.running most → tree_data new after.tree ≡ tree_data old before.tree → after.running ≡ before.running → IsSubEdit old new before after most
tree_as_sub old new before after sub most gives current edit data_same running =
    let taken = subvolume_taken old before.tree sub gives in
    let files = tree_data old before.tree in
    let reach_now : tree_reach new after.tree ++ files ≡ sub_reach new after.tree = ap (λ (l : List ℕ). tree_reach new after.tree ++ l) (sym data_same) in
    let alike : AreAlike old new files = beside_alike old new before.tree after.tree before.running most files gives.once taken edit in
    let files_current : AreCurrent new files = alike_current old new files alike (All-right (λ (at : ℕ). (block_at old at).state ≢ LetGo) (tree_reach old before.tree) files current) in
    record {
      edit = subst (λ (l : List ℕ). IsEdit old new (sub_reach old before.tree) l) reach_now (beside_edit old new before.tree after.tree before.running most files gives.once taken edit);
      current = subst (λ (l : List ℕ). AreCurrent new l) reach_now (All-append (λ (at : ℕ). (block_at new at).state ≢ LetGo) (tree_reach new after.tree) files edit.current files_current);
      kept = tree_keeps_clean old new before.tree after.tree edit.edit;
      sealed = edit.sealed;
      owner = edit.owner;
      running = running;
      bear = edit.bear;
      taken = edit.taken;
    }

pub tree_gives : (old new : Table) (before after : Tree) (running most : ℕ) (sub next : Subvolume) → GivesSubvolume old before sub → IsTreeEdit old new before after running most → tree_data new after ≡ tree_data old before
    → AreItemsOf (tree_items new after) (data_in old) next → GivesSubvolume new after next
tree_gives old new before after running most sub next gives edit data_same are =
    let taken = subvolume_taken old before sub gives in
    let files = tree_data old before in
    let alike : AreAlike old new files = beside_alike old new before after running most files gives.once taken edit in
    record {
      tree_in = edit.tree;
      items = items_local (data_in old) (data_in new) (tree_items new after) next are (λ at there. ap (λ (slot : BlockSlot). bytes_there slot) (sym (All-contains (λ (a : ℕ). block_at new a ≡ block_at old a) files at alike (subst (λ (l : List ℕ). Contains l at) data_same there))));
      data_taken = subst (λ (l : List ℕ). All (IsTaken new) l) (sym data_same) (stay_taken old new edit.edit.size files alike gives.data_taken);
      once = subst (λ (l : List ℕ). NoneTwice (tree_reach new after ++ l)) (sym data_same) (beside_once old new before after running most files gives.once taken edit);
    }
