-- Which block of a file the last extent in front of it holds.
use Rattle.std.proofs.Common.{◌≡◌, ◌≢◌, ◌≤◌, ◌<◌, ◌+◌, ◌-◌, ◌*◌, ◌/◌, ◌%◌, ◌^◌, ℕ, Bool, List, [], Option, Some, None, Result, Ok, Err, length, refl, sym, ap, subst, ◌∙◌, arith, inl, inr}
use Rattle.std.specs.Prelude.{Contains, if◌then◌else◌}
use Rattle.std.specs.FinMap.{get}
use Rattle.std.proofs.lemmas.Bool.{cases_eq}
use Rattle.blk_base.specs.declared.fault.ItemFault.{ItemFault}
use Rattle.blk_base.specs.declared.key.Key.{Key}
use Rattle.blk_base.specs.Extents.{ExtentValue, Hole, Inline, IsExtent, Regular, extent_of}
use Rattle.item_extent.specs.declared.extent.Extent.{Extent}
use Rattle.item_extent.specs.View.{extent_view}
use Rattle.blk_base.specs.Keys.{extent_data}
use Rattle.block_table.specs.declared.tree.Tree.{Tree}
use Rattle.block_table.specs.declared.state.SlotState.TheVariants.{Free}
use Rattle.block_table.specs.Slot.{is_free}
use Rattle.block_table.specs.Table.{Table}
use Rattle.block_table.specs.TreeIn.{block_at}
use Rattle.block_table.proofs.Kept.{found, taken_state}
use Rattle.flat_model.specs.Records.{FileInode, FileRecord, InodeRecord}
use Rattle.flat_model.specs.Volume.{Subvolume}
use Rattle.flat_model.proofs.Maps.{some_none, some_same}
use Rattle.tree_range.specs.Between.{data_under}
use Rattle.tree_range.specs.Shape.{tree_items}
use Rattle.volume_image.specs.Subvolume.{CoversBlock, IsExtentOf, RunHolds, extent_len, make_key}
use Rattle.volume_image.proofs.Asked.{asked_extent}
use Rattle.volume_image.proofs.Extents.{extent_len_regular, regular_is_read}
use Rattle.table_volume.specs.Gives.{GivesSubvolume, data_in}
use Rattle.table_volume.proofs.Keyed.{found_under}
use Rattle.file_blocks.specs.Runs.{IsLastExtent, extents_between}
use Rattle.file_blocks.proofs.Found.{none_between}

-- the item is a run of the file's blocks
pub record IsRunOf (table : Table) (file : FileRecord) (key : Key) (bytes : List ℕ) : Type 0 where
  pub at : ℕ
  pub len : ℕ
  pub read : extent_of key bytes ≡ Ok (Regular at 0 len)
  pub size : extent_len key bytes ≡ len
  pub whole : len % 4096 ≡ 0
  pub aligned : key.offset % 4096 ≡ 0
  pub holds : RunHolds (data_in table) file (key.offset / 4096) at (len / 4096)

key_parts : (key : Key) (ino : ℕ) → key.objectid ≡ ino → key.kind ≡ extent_data → key ≡ make_key ino extent_data key.offset
key_parts key ino o k i = record { objectid = o i; kind = k i; offset = key.offset }

module _ (table : Table) (tree : Tree) (sub : Subvolume) (ino : ℕ) (file : FileRecord) (gives : GivesSubvolume table tree sub) (there : get sub.inodes ino ≡ Some (FileInode file)) where
  pub run_of : (key : Key) (bytes : List ℕ) → Contains (tree_items table tree) (key, bytes) → key.objectid ≡ ino → key.kind ≡ extent_data → IsRunOf table file key bytes
  run_of key bytes c o k =
      let asked = asked_extent sub (data_in table) key bytes k (gives.items.only key bytes c) in
      let same : asked.0 ≡ FileInode file = some_same asked.0 (FileInode file) (sym asked.1 ∙ ap (get sub.inodes) o ∙ there) in
      let is : IsExtentOf (data_in table) (FileInode file) key bytes = subst (λ (r : InodeRecord). IsExtentOf (data_in table) r key bytes) same asked.2 in
      let extent : IsExtent key bytes (Regular is.0 0 is.1) = is.2 in
      record {
        at = is.0;
        len = is.1;
        read = regular_is_read key bytes is.0 0 is.1 extent;
        size = extent_len_regular key bytes is.0 0 is.1 extent;
        whole = extent.9.0;
        aligned = extent.10;
        holds = is.3;
      }

  -- a block of the file isn't behind the end of the last extent in front of it
  pub covered : (number : ℕ) (key : Key) (bytes : List ℕ) → IsLastExtent (tree_items table tree) ino number key bytes → (run : IsRunOf table file key bytes) → (block : List ℕ) → get file.blocks number ≡ Some block → 4096 * number < key.offset + run.len
  covered number key bytes last run block has =
      let cover : CoversBlock (tree_items table tree) ino number = gives.items.file_blocks ino file number block there has in
      let other = run_of (make_key ino extent_data cover.offset) cover.bytes cover.there refl refl in
      let up : cover.offset ≤ key.offset = last.last cover.offset cover.bytes cover.there other.aligned cover.from in
      let key_is = key_parts key ino last.objectid last.kind in
      elim (cases_eq cover.offset key.offset) [
        | inl same ↦
            let keys : make_key ino extent_data cover.offset ≡ key = ap (λ (n : ℕ). make_key ino extent_data n) same ∙ sym key_is in
            let both : Some cover.bytes ≡ Some bytes = sym (found_under (tree_items table tree) (make_key ino extent_data cover.offset) cover.bytes gives.tree_in.order cover.there)
            ∙ ap (λ (k : Key). data_under k (tree_items table tree)) keys ∙ found_under (tree_items table tree) key bytes gives.tree_in.order last.there in
            let content : cover.bytes ≡ bytes = some_same cover.bytes bytes both in
            let size : extent_len (make_key ino extent_data cover.offset) cover.bytes ≡ run.len = (λ i. extent_len (keys i) (content i)) ∙ run.size in
            omega (arith, cover.to, size, same)
        | inr differs ↦
            let less : cover.offset < key.offset = omega (arith, up, differs) in
            let mine : Contains (tree_items table tree) (make_key ino extent_data key.offset, bytes) = subst (λ (k : Key). Contains (tree_items table tree) (k, bytes)) key_is last.there in
            let apart = gives.items.apart ino cover.offset key.offset cover.bytes bytes cover.there mine less in
            absurd (omega (arith, apart, cover.to, last.before))
      ]

  -- where no extent begins in front of a block, it is a hole
  pub none_covers : (number : ℕ) → extents_between (tree_items table tree) ino 0 number ≡ [] → None ≡ get file.blocks number
  none_covers number none = by (get file.blocks number) refl
    where
      by : (o : Option (List ℕ)) → get file.blocks number ≡ o → None ≡ o
      by None h = refl
      by (Some block) h =
          let cover : CoversBlock (tree_items table tree) ino number = gives.items.file_blocks ino file number block there h in
          absurd (none_between (tree_items table tree) ino 0 number cover.offset cover.bytes none cover.there (omega arith) cover.from)

  -- behind the end of the last extent is a hole
  pub behind_covers : (number : ℕ) (key : Key) (bytes : List ℕ) → IsLastExtent (tree_items table tree) ino number key bytes → (run : IsRunOf table file key bytes) → run.len ≤ 4096 * number - key.offset → None ≡ get file.blocks number
  behind_covers number key bytes last run past = by (get file.blocks number) refl
    where
      by : (o : Option (List ℕ)) → get file.blocks number ≡ o → None ≡ o
      by None h = refl
      by (Some block) h = let within = covered number key bytes last run block h in absurd (omega (arith, within, past, last.before))

  -- within it is its block
  pub within_covers : (number : ℕ) (key : Key) (bytes : List ℕ) → IsLastExtent (tree_items table tree) ino number key bytes → (run : IsRunOf table file key bytes) → 4096 * number - key.offset < run.len
      → (data_in table (run.at + (4096 * number - key.offset)) ≡ get file.blocks number) × (block_at table (run.at + (4096 * number - key.offset))).state ≢ Free
  within_covers number key bytes last run within =
      let i = (4096 * number - key.offset) / 4096 in
      let inside : i < run.len / 4096 = omega (arith, within, run.whole, run.aligned, last.before) in
      let block = run.holds i inside in
      let place : run.at + 4096 * i ≡ run.at + (4096 * number - key.offset) = omega (arith, run.aligned, last.before) in
      let which : key.offset / 4096 + i ≡ number = omega (arith, run.aligned, last.before) in
      let data_is : data_in table (run.at + (4096 * number - key.offset)) ≡ Some block.0 = ap (data_in table) (sym place) ∙ block.1 in (
        data_is ∙ sym (ap (get file.blocks) (sym which) ∙ block.2),
        λ free. some_none block.0 (sym data_is ∙ ap (λ (b : Bool). if b then None else Some (block_at table (run.at + (4096 * number - key.offset))).bytes) (ap is_free free)),
      )

pub taken_below : (table : Table) (at : ℕ) → length table.slots < 2 ^ 32 → (block_at table at).state ≢ Free → at < 2 ^ 64
taken_below table at small taken =
    let there = found table (record { 0 = at }) (taken_state (block_at table at).state taken) in
    omega (arith, small, there.inside)

-- ---- what an extent that was read says

abbrev pub shown : Extent → Result ExtentValue ItemFault
shown e = Ok (extent_view e)

pub same_at : (a o l b m : ℕ) → ◌≡◌ {A = Result ExtentValue ItemFault} (Ok (Regular a o l)) (Ok (Regular b 0 m)) → a ≡ b
same_at a o l b m h = ap at_of h
  where
    at_of : Result ExtentValue ItemFault → ℕ
    at_of (Ok (Regular x y z)) = x
    at_of other = 0

pub same_len : (a o l b m : ℕ) → ◌≡◌ {A = Result ExtentValue ItemFault} (Ok (Regular a o l)) (Ok (Regular b 0 m)) → l ≡ m
same_len a o l b m h = ap len_of h
  where
    len_of : Result ExtentValue ItemFault → ℕ
    len_of (Ok (Regular x y z)) = z
    len_of other = 0

pub no_inline : (content : List ℕ) (b m : ℕ) → ◌≡◌ {A = Result ExtentValue ItemFault} (Ok (Inline content)) (Ok (Regular b 0 m)) → ⊥
no_inline content b m h = cc

pub no_hole : (len b m : ℕ) → ◌≡◌ {A = Result ExtentValue ItemFault} (Ok (Hole len)) (Ok (Regular b 0 m)) → ⊥
no_hole len b m h = cc

pub no_fault : (fault : ItemFault) (b m : ℕ) → ◌≡◌ {A = Result ExtentValue ItemFault} (Err fault) (Ok (Regular b 0 m)) → ⊥
no_fault fault b m h = cc
