-- A mounted volume once more buffers are spare: its trees and what they give stay.
use Rattle.std.proofs.Common.{◌≡◌, ◌≢◌, ◌++◌, ℕ, List, Contains, true, refl, sym, subst, inl, inr}
use Rattle.std.specs.Prelude.{All}
use Rattle.std.proofs.lemmas.List.Elements.{All-contains, All-weaker, Contains-append_cases}
use Rattle.blk_base.specs.Bytes.{Image}
use Rattle.blk_base.specs.Trees.{NoneTwice}
use Rattle.block_table.specs.declared.state.SlotState.TheVariants.{LetGo}
use Rattle.block_table.specs.declared.tree.SubState.{SubState}
use Rattle.block_table.specs.declared.tree.Tree.{Tree}
use Rattle.block_table.specs.Table.{Table, with_spare}
use Rattle.block_table.specs.TreeIn.{IsSealedTree, IsTaken, block_at}
use Rattle.flat_model.specs.Volume.{RunVolume}
use Rattle.table_volume.specs.Gives.{sub_reach, tree_data}
use Rattle.table_volume.specs.Running.{GiveVolume, GivesPart}
use Rattle.table_volume.proofs.Giving.{gives_by_bytes}
use Rattle.tree_frame.specs.Frame.{AreCurrent}
use Rattle.tree_frame.proofs.Reading.{IsReadable, flat_map_same}
use Rattle.tree_frame.proofs.Sealed.{sealed_alike}
use Rattle.tree_range.specs.Shape.{AreAlike, IsTree, tree_items, tree_reach}
use Rattle.tree_range.proofs.Local.{tree_alike}
use Rattle.tree_range.proofs.Times.{reach_taken}
use Rattle.volume_image.specs.Stands.{StandsBy}
use Rattle.volume_image.specs.Subvolume.{data_addresses}
use Rattle.volume_seal.specs.Sealed.{IsReady, states_reach}
use Rattle.volume_seal.proofs.States.{ready_alike}
use Rattle.image_order.specs.FirstFault.{volume_in}
use Rattle.tree_mount.specs.declared.mounted.Mounted.{Mounted}
use Rattle.tree_mount.specs.Mounted.{IsMountedAs, mount_reach}
use Rattle.tree_mount.proofs.Lists.{all_of}

-- the volume with so many spare buffers
abbrev pub spared : Mounted → ℕ → Mounted
spared m spare = record { table = with_spare m.table spare; states = m.states; root = m.root; superblock = m.superblock }

module _ (m : Mounted) (spare : ℕ) where
  abbrev old : Table
  old = m.table

  abbrev new : Table
  new = with_spare m.table spare

  alike : (reach : List ℕ) → AreAlike old new reach
  alike reach = all_of (λ (at : ℕ). block_at new at ≡ block_at old at) reach (λ at there. refl)

  -- ---- one tree

  pub tree_stands : (tree : Tree) → IsTree old tree → IsTree new tree
  tree_stands tree = (tree_alike old new tree (alike (tree_reach old tree))).2

  items_same : (tree : Tree) → tree_items new tree ≡ tree_items old tree
  items_same tree = (tree_alike old new tree (alike (tree_reach old tree))).0

  pub reach_same : (tree : Tree) → tree_reach new tree ≡ tree_reach old tree
  reach_same tree = (tree_alike old new tree (alike (tree_reach old tree))).1

  sub_same : (tree : Tree) → sub_reach new tree ≡ sub_reach old tree
  sub_same tree = λ i. reach_same tree i ++ data_addresses (items_same tree i)

  pub tree_sealed : (tree : Tree) (fsid : List ℕ) (generation : ℕ) → IsSealedTree old tree fsid generation → IsSealedTree new tree fsid generation
  tree_sealed tree fsid generation sealed = sealed_alike tree.level old new _ (alike (tree_reach old tree)) sealed

  -- ---- all of them

  pub states_ready : (fsid : List ℕ) → All (λ (state : SubState). IsReady old state.tree fsid) m.states.items → All (λ (state : SubState). IsReady new state.tree fsid) m.states.items
  states_ready fsid ready =
      All-weaker (λ (state : SubState). IsReady old state.tree fsid) (λ (state : SubState). IsReady new state.tree fsid)
      (λ state is. ready_alike old new state.tree fsid (alike (tree_reach old state.tree)) is) m.states.items ready

  states_same : states_reach new m.states.items ≡ states_reach old m.states.items
  states_same =
      flat_map_same (λ (state : SubState). sub_reach new state.tree) (λ (state : SubState). sub_reach old state.tree) m.states.items
      (all_of (λ (state : SubState). sub_reach new state.tree ≡ sub_reach old state.tree) m.states.items (λ state there. sub_same state.tree))

  pub mount_same : mount_reach (spared m spare) ≡ mount_reach m
  mount_same = λ i. reach_same m.root i ++ states_same i

  taken : (at : ℕ) → IsTaken old at → IsTaken new at
  taken at is = record { allowed = is.allowed; taken = is.taken }

  part_given : (run : RunVolume) (state : SubState) → GivesPart old run state → GivesPart new run state
  part_given run state part =
      let gives = part.gives.gives in
      let there : (at : ℕ) → Contains (sub_reach old state.tree) at → IsReadable old new at =
      λ at c. elim (Contains-append_cases (tree_reach old state.tree) (tree_data old state.tree) at c) [
        | inl tree ↦ (taken at (All-contains (IsTaken old) (tree_reach old state.tree) at (reach_taken state.tree.level old true state.tree.root.0 gives.tree_in.shape) tree), refl)
        | inr datum ↦ (taken at (All-contains (IsTaken old) (tree_data old state.tree) at gives.data_taken datum), refl)
      ] in
      record {
        sub = part.sub;
        there = part.there;
        gives = record {
          gives = gives_by_bytes old new state.tree part.sub.sub (all_of (IsReadable old new) (sub_reach old state.tree) there) gives;
          current = subst (AreCurrent new) (sym (sub_same state.tree)) (all_of (λ (at : ℕ). (block_at new at).state ≢ LetGo) (sub_reach old state.tree)
              (λ at c. All-contains (λ (place : ℕ). (block_at old place).state ≢ LetGo) (sub_reach old state.tree) at part.gives.current c));
          sound = part.gives.sound;
          next_ino = part.gives.next_ino;
          next_index = part.gives.next_index;
        };
      }

  pub volume_given : (run : RunVolume) → GiveVolume old m.states.items run → GiveVolume new m.states.items run
  volume_given run given = record {
    rising = given.rising;
    each = All-weaker (GivesPart old run) (GivesPart new run) (λ state part. part_given run state part) m.states.items given.each;
    only = given.only;
    once = subst NoneTwice (sym states_same) given.once;
  }

  pub mounted_as : (image : Image) → IsMountedAs image m → IsMountedAs image (spared m spare)
  mounted_as image is = record {
    found = is.found;
    standing = is.standing;
    superblock = is.superblock;
    no_log = is.no_log;
    gives = volume_given _ is.gives;
    bytes = λ at there. is.bytes at (subst (λ (l : List ℕ). Contains l at) mount_same there);
    stands = subst (StandsBy image (volume_in image is.found)) (sym mount_same) is.stands;
  }
