-- What a tree gives depends on the bytes of its blocks and of its files' alone.
use Rattle.std.proofs.Common.{◌≡◌, ◌≢◌, ◌∙◌, ◌/◌, ℕ, List, [], ◌∷◌, ◌++◌, length, Some, true, refl, sym, ap, subst}
use Rattle.std.specs.Prelude.{All, Contains, slice_get, slice_index_or}
use Rattle.std.proofs.lemmas.List.Elements.{All-append, All-contains, All-cons, All-nil}
use Rattle.blk_base.specs.Bytes.{field}
use Rattle.blk_base.specs.Address.{IsAllowed}
use Rattle.blk_base.specs.Items.{RootValue}
use Rattle.blk_base.specs.Superblock.{SuperValue}
use Rattle.blk_base.specs.Extents.{extent_of, inline_bytes, regular_bytes}
use Rattle.blk_base.specs.Leaf.{Item}
use Rattle.blk_base.specs.Trees.{NoneTwice}
use Rattle.blk_base.proofs.Members.{in_nothing, in_one, once_append}
use Rattle.block_table.specs.declared.state.SlotState.TheVariants.{Free}
use Rattle.block_table.specs.declared.tree.Tree.{Tree}
use Rattle.block_table.specs.Slot.{BlockSlot}
use Rattle.block_table.specs.Table.{Table}
use Rattle.block_table.specs.TreeIn.{IsTaken, block_at}
use Rattle.block_table.proofs.Kept.{taken_state}
use Rattle.tree_range.specs.Shape.{IsTree, tree_items, tree_reach}
use Rattle.tree_range.proofs.Rise.{All-left, All-right}
use Rattle.tree_frame.specs.Frame.{AreReadable}
use Rattle.tree_frame.proofs.Reading.{IsReadable, IsReadTree, reach_taken, read_tree}
use Rattle.flat_model.specs.Volume.{Subvolume}
use Rattle.volume_image.specs.Subvolume.{AreItemsOf, data_addresses}
use Rattle.volume_image.specs.Stands.{IsSubvolumeAt, data_of, sub_want}
use Rattle.volume_image.specs.Tree.{Image, IsTree as IsTreeOn}
use Rattle.volume_image.specs.Worked.{worked_items, worked_subvolume}
use Rattle.volume_image.proofs.Standing.{items_local}
use Rattle.volume_image.proofs.Worked.{worked_items_are}
use Rattle.table_volume.specs.Gives.{GivesSubvolume, bytes_there, data_in, sub_reach, tree_data}

bytes_of_taken : (slot : BlockSlot) → slot.state ≢ Free → bytes_there slot ≡ Some slot.bytes
bytes_of_taken slot taken = rw (taken_state slot.state taken) refl

-- a block that isn't Free has its bytes
pub data_at : (table : Table) (at : ℕ) → IsTaken table at → data_in table at ≡ Some (block_at table at).bytes
data_at table at taken = bytes_of_taken (block_at table at) taken.taken

-- each block of a subvolume is taken
pub subvolume_taken : (table : Table) (tree : Tree) (sub : Subvolume) → GivesSubvolume table tree sub → All (IsTaken table) (sub_reach table tree)
subvolume_taken table tree sub gives =
    All-append (IsTaken table) (tree_reach table tree) (tree_data table tree) (reach_taken tree.level table true tree.root.0 gives.tree_in.shape) gives.data_taken

-- what is read of a subvolume, where each of its blocks is there to be read
pub record IsReadSub (old new : Table) (tree : Tree) : Type 0 where
  pub tree_read : IsReadTree old new tree
  pub data_same : tree_data new tree ≡ tree_data old tree
  pub reach_same : sub_reach new tree ≡ sub_reach old tree

pub read_sub : (old new : Table) (tree : Tree) → AreReadable old new (sub_reach old tree) → IsReadSub old new tree
read_sub old new tree readable =
    let read : IsReadTree old new tree = read_tree old new tree (All-left (IsReadable old new) (tree_reach old tree) (tree_data old tree) readable) in
    let same : tree_data new tree ≡ tree_data old tree = ap (λ (items : List Item). data_addresses items) read.items in
    record {
      tree_read = read;
      data_same = same;
      reach_same = ap (λ (l : List ℕ). l ++ tree_data new tree) read.reach ∙ ap (λ (l : List ℕ). tree_reach old tree ++ l) same;
    }

-- the data that the items lead to are the same
data_read : (old new : Table) (at : ℕ) → IsTaken old at → IsReadable old new at → data_in old at ≡ data_in new at
data_read old new at taken readable =
    data_at old at taken ∙ (ap (λ (bytes : List ℕ). Some bytes) (sym readable.1) ∙ sym (data_at new at readable.0))

pub gives_by_bytes : (old new : Table) (tree : Tree) (sub : Subvolume) → AreReadable old new (sub_reach old tree) → GivesSubvolume old tree sub → GivesSubvolume new tree sub
gives_by_bytes old new tree sub readable gives =
    let read : IsReadSub old new tree = read_sub old new tree readable in
    let behind : All (IsReadable old new) (tree_data old tree) = All-right (IsReadable old new) (tree_reach old tree) (tree_data old tree) readable in
    let local : AreItemsOf (tree_items old tree) (data_in new) sub = items_local (data_in old) (data_in new) (tree_items old tree) sub gives.items (λ at there. data_read old new at (All-contains (IsTaken old) (tree_data old tree) at gives.data_taken there) (All-contains (IsReadable old new) (tree_data old tree) at behind there)) in
    record {
      tree_in = read.tree_read.stands gives.tree_in;
      items = subst (λ (items : List Item). AreItemsOf items (data_in new) sub) (sym read.tree_read.items) local;
      data_taken = subst (λ (l : List ℕ). All (IsTaken new) l) (sym read.data_same) (taken_now old new (tree_data old tree) behind);
      once = subst NoneTwice (sym read.reach_same) gives.once;
    }
  where
    taken_now : (old new : Table) (reach : List ℕ) → AreReadable old new reach → All (IsTaken new) reach
    taken_now old new reach h = λ k d within. (h k d within).0

pub readings_join : (old middle new : Table) (reach : List ℕ) → AreReadable old middle reach → AreReadable middle new reach → AreReadable old new reach
readings_join old middle new reach one two =
    λ k d within. ((two k d within).0, (two k d within).1 ∙ (one k d within).1)

-- ---- on an image

pub on_image : (table : Table) (tree : Tree) (sub : Subvolume) (image : Image) (super : SuperValue) (id : ℕ) (root : RootValue) → GivesSubvolume table tree sub → super.blocks ≡ length table.slots → IsTreeOn image super.blocks (sub_want super id root) (tree_items table tree) (tree_reach table tree) → All (λ at. slice_get image (at / 4096) ≡ Some (block_at table at).bytes) (tree_data table tree) → IsSubvolumeAt image super id root sub (sub_reach table tree)
on_image table tree sub image super id root gives size tree_on data_on = record {
  items = tree_items table tree;
  tree_reach = tree_reach table tree;
  tree = tree_on;
  same = items_local (data_in table) (data_of image) (tree_items table tree) sub gives.items (λ at there. data_at table at (All-contains (IsTaken table) (tree_data table tree) at gives.data_taken there) ∙ sym (All-contains (λ (a : ℕ). slice_get image (a / 4096) ≡ Some (block_at table a).bytes) (tree_data table tree) at data_on there));
  allowed = λ k d within. subst (λ (n : ℕ). IsAllowed n (slice_index_or (tree_data table tree) k d)) (sym size) (gives.data_taken k d within).allowed;
  reached = refl;
}

-- ---- the worked subvolume

worked_data : data_addresses worked_items ≡ 81920 ∷ []
unfolding extent_of regular_bytes inline_bytes field
worked_data = refl

pub worked_given : (table : Table) (tree : Tree) (block : List ℕ) → IsTree table tree → tree_items table tree ≡ worked_items → IsTaken table 81920 → (block_at table 81920).bytes ≡ block → (Contains (tree_reach table tree) 81920 → ⊥) → GivesSubvolume table tree (worked_subvolume block)
worked_given table tree block is_tree items taken bytes apart =
    let leads : tree_data table tree ≡ 81920 ∷ [] = ap (λ (items : List Item). data_addresses items) items ∙ worked_data in
    let there : data_in table 81920 ≡ Some block = data_at table 81920 taken ∙ ap (λ (bytes : List ℕ). Some bytes) bytes in
    record {
      tree_in = is_tree;
      items = subst (λ (items : List Item). AreItemsOf items (data_in table) (worked_subvolume block)) (sym items) (worked_items_are block (data_in table) there);
      data_taken = subst (λ (l : List ℕ). All (IsTaken table) l) (sym leads) (All-one (IsTaken table) 81920 taken);
      once = subst (λ (l : List ℕ). NoneTwice (tree_reach table tree ++ l)) (sym leads) (once_append (tree_reach table tree) (81920 ∷ []) is_tree.once (λ h. in_nothing 81920 h, tt) (λ at here there. apart (subst (λ (a : ℕ). Contains (tree_reach table tree) a) (sym (in_one 81920 at there)) here)));
    }
  where
    All-one : (P : ℕ → Type 0) (x : ℕ) → P x → All P (x ∷ [])
    All-one P x h = All-cons P x [] h (All-nil P)
