-- The item of a symlink's target.
use Rattle.std.proofs.Common.{◌≡◌, ◌≢◌, ℕ, List, Option, Some, None, refl, sym, subst, ◌∙◌}
use Rattle.std.specs.Prelude.{IsSome}
use Rattle.std.specs.FinMap.{get}
use Rattle.std.proofs.lemmas.Bool.{true≢false}
use Rattle.blk_base.specs.Extents.{Inline, IsExtent}
use Rattle.blk_base.specs.Keys.{extent_data}
use Rattle.block_table.specs.declared.tree.Tree.{Tree}
use Rattle.block_table.specs.Table.{Table}
use Rattle.flat_model.specs.Records.{InodeRecord, LinkInode, LinkRecord}
use Rattle.flat_model.specs.Volume.{Subvolume}
use Rattle.table_volume.specs.Gives.{GivesSubvolume, data_in}
use Rattle.table_volume.specs.Keyed.{AsksTarget, HoldsKey}
use Rattle.table_volume.proofs.Keyed.{keys_hold}
use Rattle.tree_range.specs.Between.{data_under}
use Rattle.tree_range.specs.Shape.{tree_items}
use Rattle.volume_image.specs.Subvolume.{IsExtentOf, make_key}
use Rattle.volume_image.proofs.Asked.{asked_extent}

some_same : {X : Type 0} (x y : X) → Some x ≡ Some y → x ≡ y
some_same x y e = cc

module _ (table : Table) (tree : Tree) (given : Subvolume) (gives : GivesSubvolume table tree given) (ino : ℕ) (link : LinkRecord) (there : get given.inodes ino ≡ Some (LinkInode link)) where
  under : HoldsKey given (data_in table) (make_key ino extent_data 0) (data_under (make_key ino extent_data 0) (tree_items table tree))
  under = keys_hold (tree_items table tree) (data_in table) given gives.tree_in.order gives.items (make_key ino extent_data 0)

  pub target_there : (bytes : List ℕ) → data_under (make_key ino extent_data 0) (tree_items table tree) ≡ Some bytes → IsExtent (make_key ino extent_data 0) bytes (Inline link.target)
  target_there bytes found =
      let key = make_key ino extent_data 0 in
      let asked = asked_extent given (data_in table) key bytes refl (under.only bytes found) in
      subst (λ (r : InodeRecord). IsExtentOf (data_in table) r key bytes) (some_same asked.0 (LinkInode link) (sym asked.1 ∙ there)) asked.2

  pub target_some : data_under (make_key ino extent_data 0) (tree_items table tree) ≢ None
  target_some none = true≢false (sym (subst (λ (o : Option (List ℕ)). IsSome o) none (under.all (AsksTarget link refl refl there))))
