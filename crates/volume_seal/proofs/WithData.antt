-- One tree with its files' data.
use Rattle.std.proofs.Common.{◌≡◌, ◌≢◌, ◌∙◌, ◌≤◌, ◌+◌, ℕ, List, ◌++◌, length, sym, ap, subst, arith, inl, inr, length-append}
use Rattle.std.specs.Prelude.{All, Contains}
use Rattle.std.proofs.lemmas.List.Elements.{All-append, All-contains_itself, All-weaker}
use Rattle.blk_base.specs.Leaf.{Item}
use Rattle.blk_base.specs.Trees.{NoneTwice}
use Rattle.blk_base.proofs.Members.{once_apart}
use Rattle.block_table.specs.declared.state.SlotState.TheVariants.{Dirty}
use Rattle.block_table.specs.declared.tree.Tree.{Tree}
use Rattle.block_table.specs.Blocks.{BlockList}
use Rattle.block_table.specs.Slot.{BlockSlot}
use Rattle.block_table.specs.Table.{Table, state_at}
use Rattle.block_table.specs.TreeIn.{IsSealedTree, IsTaken, block_at}
use Rattle.tree_range.specs.Shape.{AreAlike, IsTree, tree_items, tree_reach}
use Rattle.tree_range.proofs.Local.{tree_alike}
use Rattle.tree_frame.proofs.EditLaws.{is_dirty}
use Rattle.tree_frame.proofs.Sealed.{sealed_alike}
use Rattle.tree_seal.specs.OnImage.{AreClean, root_want}
use Rattle.tree_seal.specs.Sealing.{AreHanded, IsSealing}
use Rattle.tree_seal.proofs.Above.{above_clean}
use Rattle.volume_image.specs.Subvolume.{data_addresses}
use Rattle.table_volume.specs.Gives.{sub_reach, tree_data}
use Rattle.volume_seal.specs.Sealed.{IsDataSealed, IsPartSealed, IsReady, IsWhole}
use Rattle.volume_seal.proofs.Parts.{all_sealed, clean_alike, lent_still, part_join, room_left, still_taken}

stays_clean : (mid new : Table) (reach : List ℕ) → AreAlike mid new reach → AreClean mid reach → AreClean new reach
stays_clean mid new reach alike clean =
    λ k d within dirty. clean k d within (ap (λ (slot : BlockSlot). slot.state) (sym (alike k d within)) ∙ dirty)

module _ (old mid : Table) (tree : Tree) (fsid : List ℕ) (generation : ℕ) (first middle : BlockList) (taken : All (IsTaken old) (tree_data old tree)) (once : NoneTwice (sub_reach old tree)) (stands : IsTree mid tree) (items : tree_items mid tree ≡ tree_items old tree) (reach : tree_reach mid tree ≡ tree_reach old tree)
    (sealing : IsSealing old mid (tree_reach old tree)) (clean : AreClean mid (tree_reach mid tree)) (handed : AreHanded old mid (tree_reach old tree) first.pairs middle.pairs) (room : middle.room ≡ first.room) where
  tree_part : IsPartSealed old mid (tree_reach old tree) first middle
  tree_part = record { sealing = sealing; handed = handed; room = room }

  pub data_same : tree_data mid tree ≡ tree_data old tree
  data_same = ap (λ (l : List Item). data_addresses l) items

  pub data_taken : All (IsTaken mid) (tree_data mid tree)
  data_taken =
      subst (All (IsTaken mid)) (sym data_same) (All-weaker (IsTaken old) (IsTaken mid) (λ at t. still_taken old mid (tree_reach old tree) at sealing t) (tree_data old tree) taken)

  pub data_lent : first.room ≡ length old.slots → middle.room ≡ length mid.slots
  data_lent lent = lent_still old mid (tree_reach old tree) first middle tree_part lent

  pub data_room : length first.pairs + length (sub_reach old tree) ≤ length old.slots → length middle.pairs + length (tree_data mid tree) ≤ length mid.slots
  data_room enough =
      let same = ap length data_same in
      let both = length-append (tree_reach old tree) (tree_data old tree) in
      room_left old mid (tree_reach old tree) first middle (length (sub_reach old tree)) (length (tree_data mid tree)) tree_part enough (omega (arith, same, both))

  -- the headers are right, whether the tree was sealed or there was nothing to do
  pub written_now : (ready : IsReady old tree fsid) → (state_at old tree.root ≡ Dirty → IsSealedTree mid tree fsid generation) → (state_at old tree.root ≢ Dirty → (mid ≡ old) × (middle ≡ first)) → (g : ℕ) × IsSealedTree mid tree fsid g
  written_now ready sealed unchanged = elim (is_dirty (state_at old tree.root)) [
    | inl dirty ↦ (generation, sealed dirty)
    | inr clean ↦ (ready.written.0, subst (λ (t : Table). IsSealedTree t tree fsid ready.written.0) (sym (unchanged clean).0) ready.written.1)
  ]

  module _ (new : Table) (last : BlockList) (data_sealed : IsDataSealed mid new (tree_data mid tree) middle last) (written : (g : ℕ) × IsSealedTree mid tree fsid g) where
    alike : AreAlike mid new (tree_reach mid tree)
    alike = clean_alike mid new (tree_data mid tree) (tree_reach mid tree) data_sealed.part.sealing clean

    tree_now : (tree_items new tree ≡ tree_items mid tree) × (tree_reach new tree ≡ tree_reach mid tree) × (IsTree mid tree → IsTree new tree)
    tree_now = tree_alike mid new tree alike

    data_now : tree_data new tree ≡ tree_data old tree
    data_now = ap (λ (l : List Item). data_addresses l) (tree_now.0 ∙ items)

    reach_now : tree_reach new tree ≡ tree_reach old tree
    reach_now = tree_now.1 ∙ reach

    clean_tree : AreClean new (tree_reach old tree)
    clean_tree = subst (AreClean new) reach (stays_clean mid new (tree_reach mid tree) alike clean)

    clean_data : AreClean new (tree_data old tree)
    clean_data = subst (AreClean new) data_same (all_sealed mid new (tree_data mid tree) data_sealed.part.sealing)

    -- no data block is one of the tree
    data_bytes : (at : ℕ) → Contains (tree_data old tree) at → (block_at new at).bytes ≡ (block_at old at).bytes
    data_bytes at there =
        data_sealed.bytes at ∙ ap (λ (slot : BlockSlot). slot.bytes) (sealing.others at (λ here. once_apart (tree_reach old tree) (tree_data old tree) once at here there))

    pub with_data : IsPartSealed old new (sub_reach old tree) first last
    with_data =
        part_join old mid new (tree_reach old tree) (tree_data old tree) first middle last tree_part (subst (λ (l : List ℕ). IsPartSealed mid new l middle last) data_same data_sealed.part)

    pub whole_now : IsWhole old new tree fsid
    whole_now = record {
      stands = tree_now.2 stands;
      items = tree_now.0 ∙ items;
      reach = ap (λ (l : List ℕ). l ++ tree_data new tree) reach_now ∙ ap (λ (l : List ℕ). tree_reach old tree ++ l) data_now;
      bytes = All-weaker (Contains (tree_data old tree)) (λ (at : ℕ). (block_at new at).bytes ≡ (block_at old at).bytes) data_bytes (tree_data old tree) (All-contains_itself (tree_data old tree));
      clean = All-append (λ (at : ℕ). (block_at new at).state ≢ Dirty) (tree_reach old tree) (tree_data old tree) clean_tree clean_data;
      ready = record {
        above = above_clean tree.level new tree.root.0 (subst (AreClean new) (sym reach_now) clean_tree);
        written = (written.0, sealed_alike tree.level mid new (root_want tree fsid written.0) alike written.1);
      };
    }
