-- A file that is written or cut, with its inode item behind it.
use Rattle.std.proofs.Common.{◌≡◌, ◌≤◌, ◌+◌, ◌-◌, ◌*◌, ℕ, List, length, Some, refl, ap, ◌∙◌, arith}
use Rattle.std.specs.FinMap.{get, len}
use Rattle.blk_base.specs.Items.{InodeValue, IsInode, inode_bytes}
use Rattle.blk_base.specs.Keys.{inode_item}
use Rattle.block_table.specs.declared.tree.SubState.{SubState}
use Rattle.block_table.specs.declared.tree.Tree.{Tree}
use Rattle.block_table.specs.Table.{Table}
use Rattle.flat_model.specs.Contents.{most_file_bytes, truncated, written}
use Rattle.flat_model.specs.Needs.{blocks_past}
use Rattle.flat_model.specs.Records.{FileRecord}
use Rattle.flat_model.specs.Volume.{RunSub}
use Rattle.item_edit.specs.ItemEdit.{IsItemEdit}
use Rattle.tree_range.specs.Shape.{tree_items}
use Rattle.table_volume.specs.Gives.{data_in}
use Rattle.volume_image.specs.Subvolume.{make_key}
use Rattle.file_extents.specs.Extents.{HoldContents, IsContentEdit, held_between}
use Rattle.file_contents.specs.Given.{GivesFile, resized}
use Rattle.file_contents.specs.Written.{end_block, first_block}
use Rattle.file_contents.proofs.Counting.{len_most, past_held}
use Rattle.file_contents.proofs.Files.{truncated_len, written_len}
use Rattle.file_contents.proofs.Given.{low}
use Rattle.file_contents.proofs.Making.{IsRewrite}
use Rattle.file_contents.proofs.Writing.{right_item, value_there}

pub rewritten : (old mid new : Table) (before after : SubState) (middle : Tree) (run : RunSub) (ino most : ℕ) (file next : FileRecord) (item : InodeValue) (size nbytes : ℕ) (is : GivesFile old before run ino file)
    → IsContentEdit old mid before.tree middle before.running ino most → HoldContents (tree_items mid middle) (data_in mid) ino (get next.blocks)
    → IsItemEdit mid new middle after.tree (make_key ino inode_item 0) (Some (inode_bytes (resized item before.running size nbytes)))
    → IsInode (inode_bytes (resized item before.running size nbytes)) (resized item before.running size nbytes)
    → item ≡ value_there old before run ino file is → size ≡ next.size → nbytes ≡ 4096 * len next.blocks → next.attributes ≡ file.attributes → after.running ≡ before.running
    → IsRewrite old mid new before after middle run ino most file next (resized item before.running size nbytes)
rewritten old mid new before after middle run ino most file next item size nbytes is content holds edit spelled same size_is nbytes_is attributes running = record {
  is = is;
  content = content;
  holds = holds;
  item = edit;
  spelled = spelled;
  transid = refl;
  right = right_item old before run ino file is next item before.running size nbytes same size_is nbytes_is spelled;
  attributes = attributes;
  running = running;
}

-- ---- the count of the data blocks' bytes

more_bytes : (nbytes count len len' more : ℕ) → nbytes ≡ 4096 * len → len' ≡ len + more → nbytes + 4096 * more ≡ 4096 * len'
more_bytes nbytes count len len' more p q = omega (arith, p, q)

module _ (table : Table) (state : SubState) (run : RunSub) (ino : ℕ) (file : FileRecord) (is : GivesFile table state run ino file) where
  pub few_blocks : len file.blocks ≤ 4096
  few_blocks = len_most 4096 file.blocks (low table state run ino file is)

  pub written_nbytes : (offset : ℕ) (text : List ℕ) (end held nbytes : ℕ) → end ≡ end_block offset (length text) → held ≡ held_between (get file.blocks) (first_block offset) (end - first_block offset) → nbytes ≡ 4096 * len file.blocks
      → end_block offset (length text) ≤ 4096 → nbytes + 4096 * (end - first_block offset - held) ≡ 4096 * len (written file offset text).blocks
  written_nbytes offset text end held nbytes end_is held_is nbytes_is few =
      let long = written_len 4096 file offset text (low table state run ino file is) few in
      let first = first_block offset in
      let same = held_is ∙ ap (λ (e : ℕ). held_between (get file.blocks) first (e - first)) end_is in
      more_bytes nbytes 0 (len file.blocks) (len (written file offset text).blocks) (end - first - held) nbytes_is (long ∙ parts (len file.blocks) first end held (end_block offset (length text)) (held_between (get file.blocks) first (end_block offset (length text) - first)) end_is same)
    where
      parts : (l first end held end' held' : ℕ) → end ≡ end' → held ≡ held' → l + (end' - first - held') ≡ l + (end - first - held)
      parts l first end held end' held' p q = omega (arith, p, q)

  pub past_few : (size : ℕ) → size ≤ most_file_bytes → blocks_past file size ≤ len file.blocks
  past_few size few =
      let long = truncated_len file size (low table state run ino file is) 4096 (low table state run ino file is) (omega (arith, few)) in
      let past = past_held 4096 file size (low table state run ino file is) (omega (arith, few)) in
      omega (arith, long, past)

  pub past_bytes : (size nbytes past : ℕ) → size ≤ most_file_bytes → nbytes ≡ 4096 * len file.blocks → past ≡ blocks_past file size → nbytes - 4096 * past ≡ 4096 * len (truncated file size).blocks
  past_bytes size nbytes past few nbytes_is past_is =
      let long = truncated_len file size (low table state run ino file is) 4096 (low table state run ino file is) (omega (arith, few)) in
      let all = past_held 4096 file size (low table state run ino file is) (omega (arith, few)) in
      less_bytes nbytes (len file.blocks) (len (truncated file size).blocks) past _ nbytes_is long (past_is ∙ all)
    where
      less_bytes : (nbytes l l' past held : ℕ) → nbytes ≡ 4096 * l → l ≡ l' + held → past ≡ held → nbytes - 4096 * past ≡ 4096 * l'
      less_bytes nbytes l l' past held p q r = omega (arith, p, q, r)
