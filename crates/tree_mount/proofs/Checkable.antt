-- Trees whose items and data blocks were checked are ready for the check of their inodes.
use Rattle.std.proofs.Common.{ℕ, true, List, [], ◌∷◌, length, Contains, sym, subst}
use Rattle.std.proofs.lemmas.List.Elements.{All-contains}
use Rattle.blk_base.specs.declared.key.Want.{Want}
use Rattle.blk_base.specs.Address.{IsAllowed}
use Rattle.blk_base.specs.Leaf.{Item}
use Rattle.blk_base.specs.Superblock.{SuperValue}
use Rattle.block_table.specs.Table.{Table, empty_table}
use Rattle.block_table.specs.TreeIn.{IsTaken, block_at}
use Rattle.check_laws.proofs.Readable.{readable}
use Rattle.image_faults.specs.Faulty.{AreReadable}
use Rattle.image_order.proofs.Reached.{data_found}
use Rattle.table_volume.proofs.Giving.{data_at}
use Rattle.tree_check.specs.Items.{HaveKeys}
use Rattle.tree_load.specs.Loaded.{AreTaken, IsLoad, tree_wanted}
use Rattle.tree_load.proofs.Tables.{live_not_free, live_state, taken_more}
use Rattle.tree_load.proofs.Taken.{none_taken}
use Rattle.volume_image.specs.Roots.{root_want}
use Rattle.volume_image.specs.Subvolume.{data_addresses}
use Rattle.volume_image.proofs.Members.{flat_map_in}
use Rattle.volume_image.proofs.Reaches.{tail_in}
use Rattle.tree_mount.specs.Checks.{AreItemsRight, AreReachable, IsCheckable}
use Rattle.tree_mount.specs.Trees.{AreLoaded, items_of, wants_data, wants_reach}
use Rattle.tree_mount.proofs.Loading.{kept_by}

pub checkable : (super : SuperValue) (mid new : Table) (wants : List Want) → AreLoaded (empty_table super.blocks) mid (root_want super ∷ wants) → ((want : Want) → Contains wants want → AreItemsRight mid want)
    → IsLoad true mid new (wants_data mid wants) → AreReachable mid (wants_data mid wants) → (want : Want) → Contains wants want → IsCheckable new want
checkable super mid new wants loaded right load reachable want c =
    let is = loaded.each want (tail_in (root_want super) want wants c) in
    let kept = kept_by true mid new want (wants_data mid wants) load is in
    let ok = right want c in
    let taken : AreTaken mid (wants_reach mid (root_want super ∷ wants)) = taken_more (empty_table super.blocks) mid [] (wants_reach mid (root_want super ∷ wants)) loaded.load (none_taken super.blocks) in
    let allowed = (data_found (length mid.slots) (wants_data mid wants) (wants_reach mid (root_want super ∷ wants)) _ (reachable (wants_reach mid (root_want super ∷ wants)) taken)).allowed in
    record {
      tree = kept.tree;
      keys = subst HaveKeys (sym kept.items) ok.keys;
      readable = subst AreReadable (sym kept.items) (readable mid (tree_wanted want) is ok.bytes ok.answer);
      there = λ at d.
          let old : Contains (data_addresses (items_of mid want)) at = subst (λ (l : List Item). Contains (data_addresses l) at) kept.items d in
          let all : Contains (wants_data mid wants) at = flat_map_in (λ (w : Want). data_addresses (items_of mid w)) wants want at c old in
          let here : IsTaken new at = record { allowed = subst (λ (n : ℕ). IsAllowed n at) (sym load.size) (All-contains (IsAllowed (length mid.slots)) (wants_data mid wants) at allowed all); taken = live_not_free new at (live_state new at (load.live at all)) } in
          ((block_at new at).bytes, data_at new at here);
    }
