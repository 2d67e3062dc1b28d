-- A tree of the items of a bare subvolume gives it.
use Rattle.std.proofs.Common.{◌≡◌, ◌<◌, ◌++◌, ◌^◌, ℕ, List, [], Some, refl, sym, ap, subst, ◌∙◌, arith}
use Rattle.std.specs.Prelude.{All}
use Rattle.std.specs.FinMap.{get-empty}
use Rattle.std.specs.Ordering.{nat_cmp}
use Rattle.std.proofs.lemmas.List.{append-nil}
use Rattle.std.proofs.lemmas.List.Elements.{All-nil}
use Rattle.blk_base.specs.Entries.{ref_bytes}
use Rattle.blk_base.specs.Items.{InodeValue, IsInode, inode_bytes}
use Rattle.item_edit.specs.ItemEdit.{BearsUnder, IsItemEdit}
use Rattle.table_volume.specs.TreeEdit.{IsTreeEdit}
use Rattle.table_volume.proofs.SubEdits.{tree_joined}
use Rattle.blk_base.specs.Keys.{inode_item, inode_ref}
use Rattle.blk_base.specs.Leaf.{Item}
use Rattle.blk_base.specs.Trees.{NoneTwice}
use Rattle.block_table.specs.declared.tree.SubState.{SubState}
use Rattle.block_table.specs.declared.tree.Tree.{Tree}
use Rattle.block_table.specs.Table.{Table}
use Rattle.block_table.specs.TreeIn.{IsTaken}
use Rattle.flat_model.specs.Running.{IsSound}
use Rattle.flat_model.specs.Volume.{bare_subvolume, last_index_in}
use Rattle.volume_image.proofs.Lists.{in_nothing}
use Rattle.std.specs.Option.{unwrap_or}
use Rattle.table_volume.specs.Gives.{GivesSubvolume, data_in, sub_reach, tree_data}
use Rattle.table_volume.specs.Running.{GivesRun}
use Rattle.tree_frame.specs.Frame.{AreCurrent, with_item}
use Rattle.tree_range.specs.Shape.{IsTree, tree_items, tree_reach}
use Rattle.volume_image.specs.Bare.{bare_inode, bare_items, bare_ref}
use Rattle.volume_image.specs.Subvolume.{AreItemsOf, data_addresses, make_key}
use Rattle.volume_image.proofs.BareItems.{bare_items_are}
use Rattle.volume_image.proofs.BareSubvolume.{bare_inode_only, bare_subvolume_is_coherent}
use Rattle.bare_state.specs.Bare.{bare_run}

no_data : (running : ℕ) → data_addresses (bare_items running) ≡ []
no_data running = refl

module _ (table : Table) (tree : Tree) (running : ℕ) (stands : IsTree table tree) (current : AreCurrent table (tree_reach table tree)) (are : tree_items table tree ≡ bare_items running) (fits : running < 2 ^ 64) where
  pub no_data_blocks : tree_data table tree ≡ []
  no_data_blocks = ap data_addresses are ∙ no_data running

  pub reach_is : sub_reach table tree ≡ tree_reach table tree
  reach_is = ap (λ (data_at : List ℕ). tree_reach table tree ++ data_at) no_data_blocks ∙ append-nil (tree_reach table tree)

  pub bare_given : GivesSubvolume table tree bare_subvolume
  bare_given = record {
    tree_in = stands;
    items = subst (λ (items : List Item). AreItemsOf items (data_in table) bare_subvolume) (sym are) (bare_items_are (data_in table) running fits);
    data_taken = subst (All (IsTaken table)) (sym no_data_blocks) (All-nil (IsTaken table));
    once = subst NoneTwice (sym reach_is) stands.once;
  }

  pub bare_run_given : (state : SubState) → state.tree ≡ tree → state.next_ino ≡ 257 → state.next_index ≡ 2 → GivesRun table state bare_run
  bare_run_given state is ino index = record {
    gives = subst (λ (t : Tree). GivesSubvolume table t bare_subvolume) (sym is) bare_given;
    current = subst (λ (t : Tree). AreCurrent table (sub_reach table t)) (sym is) (subst (AreCurrent table) (sym reach_is) current);
    sound = bare_is_sound;
    next_ino = ino;
    next_index = index;
  }
    where
      none : (dir : ℕ) → last_index_in bare_run.numbers dir ≡ 1
      none dir = ap (λ o. unwrap_or o 1) (get-empty nat_cmp dir)

      bare_is_sound : IsSound bare_run
      bare_is_sound = record {
        coherent = bare_subvolume_is_coherent;
        covered = record {
          inos = λ ino inode there. let at = (bare_inode_only ino inode there).0 in omega (arith, at);
          indexes = λ name c. absurd (in_nothing name c);
          directories = λ dir. omega (arith, none dir);
          at_least_one = λ dir. omega (arith, none dir);
        };
      }

-- ---- how the tree is made

some_same : (a b : List ℕ) → Some a ≡ Some b → a ≡ b
some_same a b e = cc

-- two items of which the first bears the running generation, and the second none
inode_bears : (running : ℕ) (items : List Item) (bytes : List ℕ) (value : InodeValue) → IsInode bytes value → value.transid ≡ running → BearsUnder running items (make_key 256 inode_item 0) bytes
inode_bears running items bytes value spelled is = record {
  inode = λ k. ap (λ (v : InodeValue). v.transid) spelled.value ∙ is;
  entries = λ found k s. absurd (grind (arith, k));
  extent = λ k. absurd (omega (arith, k));
}

ref_bears : (running : ℕ) (items : List Item) (bytes : List ℕ) → BearsUnder running items (make_key 256 inode_ref 256) bytes
ref_bears running items bytes = record {
  inode = λ k. absurd (omega (arith, k));
  entries = λ found k s. absurd (grind (arith, k));
  extent = λ k. absurd (omega (arith, k));
}

module _ (old mid new : Table) (first second third : Tree) (running : ℕ) (spelled : IsInode (inode_bytes (bare_inode running)) (bare_inode running)) (none : tree_items old first ≡ [])
    (one : IsItemEdit old mid first second (make_key 256 inode_item 0) (Some (inode_bytes (bare_inode running)))) (two : IsItemEdit mid new second third (make_key 256 inode_ref 256) (Some (ref_bytes bare_ref))) where
  pub made : IsTreeEdit old new first third running 34
  made =
      tree_joined old mid new first second third running 17 17
      (one.edit running (λ b e. subst (BearsUnder running (tree_items old first) (make_key 256 inode_item 0)) (some_same (inode_bytes (bare_inode running)) b e)
      (inode_bears running (tree_items old first) (inode_bytes (bare_inode running)) (bare_inode running) spelled refl)))
      (two.edit running (λ b e. ref_bears running (tree_items mid second) b))

  pub made_items : tree_items new third ≡ bare_items running
  made_items = two.items ∙ ap (with_item (make_key 256 inode_ref 256) (ref_bytes bare_ref)) (one.items ∙ ap (with_item (make_key 256 inode_item 0) (inode_bytes (bare_inode running))) none)
