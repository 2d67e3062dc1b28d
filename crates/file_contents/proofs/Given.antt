-- What holds of a file that a state gives.
use Rattle.std.proofs.Common.{◌≡◌, ◌≢◌, ◌≤◌, ◌<◌, ◌+◌, ◌*◌, ◌/◌, ◌^◌, ℕ, List, Some, refl, sym, ap, subst, ◌∙◌, arith}
use Rattle.std.specs.Prelude.{Contains}
use Rattle.std.specs.FinMap.{get}
use Rattle.blk_base.specs.declared.key.Key.{Key}
use Rattle.blk_base.specs.Extents.{Regular, extent_of}
use Rattle.blk_base.specs.Items.{InodeValue}
use Rattle.blk_base.specs.Keys.{extent_data, inode_item}
use Rattle.blk_base.specs.Leaf.{Item}
use Rattle.block_table.specs.declared.tree.SubState.{SubState}
use Rattle.block_table.specs.declared.tree.Tree.{Tree}
use Rattle.block_table.specs.Table.{Table}
use Rattle.flat_model.specs.Coherent.{IsCoherent, KeepsFileLimits}
use Rattle.flat_model.specs.Records.{FileInode, FileRecord, InodeRecord}
use Rattle.flat_model.specs.Volume.{RunSub, Subvolume}
use Rattle.flat_model.proofs.Maps.{some_same}
use Rattle.flat_model.proofs.Ways.{dir_record}
use Rattle.inode_removal.specs.Removal.{MayRemoveInode}
use Rattle.inode_removal.proofs.OwnItems.{small_offset}
use Rattle.item_edit.specs.ItemEdit.{HasInode}
use Rattle.tree_range.specs.Between.{data_under}
use Rattle.tree_range.specs.Shape.{tree_items}
use Rattle.tree_range.proofs.Found.{contains_under}
use Rattle.table_volume.specs.Gives.{GivesSubvolume, data_in}
use Rattle.table_volume.proofs.Giving.{subvolume_taken}
use Rattle.table_volume.proofs.Keyed.{found_under}
use Rattle.volume_image.specs.Subvolume.{CoversBlock, IsInodeOf, extent_len, make_key}
use Rattle.volume_image.proofs.Asked.{asked_inode}
use Rattle.volume_image.proofs.Extents.{extent_len_regular}
use Rattle.file_blocks.proofs.Covered.{IsRunOf, run_of}
use Rattle.file_extents.specs.Extents.{AreRunsOf, HasRun, HoldContents, IsHeld, IsRunItem}
use Rattle.item_laws.specs.ExtentLaws.{extent_from}
use Rattle.file_contents.specs.Given.{GivesFile}

-- ---- the blocks of a file of a subvolume that a tree gives

module _ (table : Table) (tree : Tree) (sub : Subvolume) (ino : ℕ) (file : FileRecord) (gives : GivesSubvolume table tree sub) (there : get sub.inodes ino ≡ Some (FileInode file)) where
  abbrev items : List Item
  items = tree_items table tree

  run_at : (offset : ℕ) (bytes : List ℕ) → data_under (make_key ino extent_data offset) items ≡ Some bytes → IsRunOf table file (make_key ino extent_data offset) bytes
  run_at offset bytes found =
      run_of table tree sub ino file gives there (make_key ino extent_data offset) bytes (contains_under items (make_key ino extent_data offset) bytes found) refl refl

  each : (offset : ℕ) (bytes : List ℕ) → data_under (make_key ino extent_data offset) items ≡ Some bytes → IsRunItem items ino offset
  each offset bytes found =
      let run = run_at offset bytes found in
      let place : offset ≡ 4096 * (offset / 4096) = omega (arith, run.aligned) in
      let whole : run.len ≡ 4096 * (run.len / 4096) = omega (arith, run.whole) in
      record {
        begin = offset / 4096;
        at = run.at;
        count = run.len / 4096;
        offset_is = place;
        run = record {
          bytes = bytes;
          there = ap (λ (n : ℕ). data_under (make_key ino extent_data n) items) (sym place) ∙ found;
          read = ap (λ (n : ℕ). extent_of (make_key ino extent_data n) bytes) (sym place) ∙ run.read ∙ ap (λ (n : ℕ). Rattle.std.proofs.Common.Ok (Regular run.at 0 n)) whole;
        };
      }

  len_is : (begin at count : ℕ) (run : HasRun items ino begin at count) → extent_len (make_key ino extent_data (4096 * begin)) run.bytes ≡ 4096 * count
  len_is begin at count run =
      extent_len_regular (make_key ino extent_data (4096 * begin)) run.bytes at 0 (4096 * count) (extent_from (make_key ino extent_data (4096 * begin)) run.bytes (Regular at 0 (4096 * count)) run.read)

  are : AreRunsOf (HasRun items ino) (data_in table) (get file.blocks)
  are = record {
    holds = λ begin at count i run less.
        let of = run_at (4096 * begin) run.bytes run.there in
        let told = sym of.read ∙ run.read in
        let at_is : of.at ≡ at = Rattle.file_blocks.proofs.Covered.same_at of.at 0 of.len at (4096 * count) told in
        let len_same : of.len ≡ 4096 * count = Rattle.file_blocks.proofs.Covered.same_len of.at 0 of.len at (4096 * count) told in
        let block = of.holds i (omega (arith, len_same, less)) in (
          block.0,
          ap (λ (n : ℕ). data_in table (n + 4096 * i)) (sym at_is) ∙ block.1,
          ap (λ (n : ℕ). get file.blocks (n + i)) (omega arith) ∙ block.2,
        );
    covered = λ number block has.
        let cover : CoversBlock items ino number = gives.items.file_blocks ino file number block there has in
        let found = found_under items (make_key ino extent_data cover.offset) cover.bytes gives.tree_in.order cover.there in
        let run = each cover.offset cover.bytes found in
        let same : run.run.bytes ≡ cover.bytes = some_same run.run.bytes cover.bytes (sym run.run.there ∙ ap (λ (n : ℕ). data_under (make_key ino extent_data n) items) (sym run.offset_is) ∙ found) in
        let size : extent_len (make_key ino extent_data cover.offset) cover.bytes ≡ 4096 * run.count =
        (λ i. extent_len (make_key ino extent_data (run.offset_is i)) (sym same i)) ∙ len_is run.begin run.at run.count run.run in
        record {
          begin = run.begin;
          at = run.at;
          count = run.count;
          run = run.run;
          from = omega (arith, run.offset_is, cover.from);
          to = omega (arith, run.offset_is, cover.to, size);
        };
    apart = λ one at count two other more first second less.
        let a = contains_under items (make_key ino extent_data (4096 * one)) first.bytes first.there in
        let b = contains_under items (make_key ino extent_data (4096 * two)) second.bytes second.there in
        let h = gives.items.apart ino (4096 * one) (4096 * two) first.bytes second.bytes a b (omega (arith, less)) in
        let size = len_is one at count first in
        omega (arith, h, size);
  }

  pub contents_held : HoldContents items (data_in table) ino (get file.blocks)
  contents_held = record { each = each; are = are }

  -- what its inode item says
  pub record SaysFile : Type 0 where
    pub value : InodeValue
    pub has : HasInode (tree_items table tree) ino value
    pub says : IsInodeOf sub ino (FileInode file) has.bytes
    pub same : says.value ≡ value

  pub inode_there : SaysFile
  inode_there =
      let has = gives.items.inodes ino (FileInode file) there in
      let asked = asked_inode sub (data_in table) (make_key ino inode_item 0) has.0 refl (gives.items.only (make_key ino inode_item 0) has.0 has.1) in
      let same : asked.0 ≡ FileInode file = some_same asked.0 (FileInode file) (sym asked.2 ∙ there) in
      let is : IsInodeOf sub ino (FileInode file) has.0 = subst (λ (r : InodeRecord). IsInodeOf sub ino r has.0) same asked.3 in
      record {
        value = is.value;
        has = record { bytes = has.0; there = found_under items (make_key ino inode_item 0) has.0 gives.tree_in.order has.1; spelled = is.spelled };
        says = is;
        same = refl;
      }

-- ---- no offset of a key is the greatest

inode_above : (sub : Subvolume) → IsCoherent sub → (ino : ℕ) (inode : InodeRecord) → get sub.inodes ino ≡ Some inode → (256 ≤ ino) × (ino ≤ 2 ^ 62 + 1)
inode_above sub coherent ino inode there = coherent.ino_numbers ino inode there

none_leads : (sub : Subvolume) → IsCoherent sub → MayRemoveInode sub 0
none_leads sub coherent = record {
  not_root = λ e. omega (arith, e);
  unnamed = λ name c is.
      let inode = coherent.leads_to_inode name c in
      let range = inode_above sub coherent name.ino inode.0 inode.1 in
      omega (arith, range.0, is);
  without_names = λ name c is.
      let dir = dir_record (get sub.inodes name.dir) (coherent.stands_in_dir name c) in
      let range = inode_above sub coherent name.dir dir.0 dir.1 in
      omega (arith, range.0, is);
  limits = coherent.limits;
  names = coherent.name_limits;
  directories = λ name c.
      let dir = dir_record (get sub.inodes name.dir) (coherent.stands_in_dir name c) in
      (inode_above sub coherent name.dir dir.0 dir.1).1;
  indexes = λ name c. (coherent.index_numbers name c).1;
}

-- no block of a file is past the greatest
pub all_low : (file : FileRecord) → KeepsFileLimits file → (number : ℕ) (block : List ℕ) → get file.blocks number ≡ Some block → number < 4096
all_low file limits number block has =
    let below = (limits.blocks number block has).begins_below_size in
    let size = limits.size in
    omega (arith, below, size)

-- ---- the file that a state gives

module _ (table : Table) (state : SubState) (run : RunSub) (ino : ℕ) (file : FileRecord) (is : GivesFile table state run ino file) where
  pub held : IsHeld table state.tree
  held = record {
    stands = is.gives.gives.tree_in;
    taken = subvolume_taken table state.tree run.sub is.gives.gives;
    current = is.gives.current;
    once = is.gives.gives.once;
  }

  pub holds : HoldContents (tree_items table state.tree) (data_in table) ino (get file.blocks)
  holds = contents_held table state.tree run.sub ino file is.gives.gives is.there

  pub limits : KeepsFileLimits file
  limits = (is.gives.sound.coherent.limits ino (FileInode file) is.there).kind

  pub low : (number : ℕ) (block : List ℕ) → get file.blocks number ≡ Some block → number < 4096
  low = all_low file limits

  pub offsets : (key : Key) (bytes : List ℕ) → Contains (tree_items table state.tree) (key, bytes) → key.offset + 1 < 2 ^ 64
  offsets key bytes c =
      small_offset run.sub (data_in table) 0 (none_leads run.sub is.gives.sound.coherent) key bytes (is.gives.gives.items.only key bytes c)
