-- What a write and a cut of a file ask for, and the inode item behind them.
use Rattle.std.proofs.Common.{◌≡◌, ◌≤◌, ◌<◌, ◌+◌, ◌-◌, ◌*◌, ℕ, List, Option, length, sym, ap, subst, ◌∙◌, arith, inr}
use Rattle.std.specs.FinMap.{get, len}
use Rattle.blk_base.specs.Items.{InodeValue, IsInode, file_mode, inode_bytes}
use Rattle.block_table.specs.declared.tree.SubState.{SubState}
use Rattle.block_table.specs.declared.tree.Tree.{Tree}
use Rattle.block_table.specs.Table.{Table}
use Rattle.flat_model.specs.Contents.{block_written}
use Rattle.flat_model.specs.Operations.{with_record}
use Rattle.flat_model.specs.Records.{Blocks, FileInode, FileRecord}
use Rattle.flat_model.specs.Volume.{RunSub}
use Rattle.item_edit.specs.ItemEdit.{HasInode}
use Rattle.tree_range.specs.Shape.{tree_items}
use Rattle.table_volume.specs.Gives.{data_in}
use Rattle.table_volume.specs.Operated.{HasRoom}
use Rattle.volume_image.specs.Subvolume.{IsInodeOf}
use Rattle.file_extents.specs.Extents.{Contents, HoldContents, HoldIn, MayClear, cleared, held_between, with_blocks}
use Rattle.file_extents.proofs.Runs.{hold_same, with_out}
use Rattle.file_contents.specs.Given.{GivesFile, resized}
use Rattle.file_contents.specs.Written.{MayPut, edge_of, end_block, first_block}
use Rattle.file_contents.proofs.Given.{holds, inode_there, low}
use Rattle.file_contents.proofs.Puts.{cleared_hole, with_cleared}

module _ (table : Table) (state : SubState) (run : RunSub) (ino : ℕ) (file : FileRecord) (is : GivesFile table state run ino file) where
  pub may_clear : (from to most : ℕ) → HasRoom table most → 2 * held_between (get file.blocks) from (to - from) + 102 ≤ most → MayClear table state.tree ino (get file.blocks) from to
  may_clear from to most room few = record {
    holds = holds table state run ino file is;
    small = λ number block has. let l = low table state run ino file is number block has in omega (arith, l);
    room = record { spare = omega (arith, room.spare, few); free = omega (arith, room.free, few) };
  }

  pub may_put : (offset : ℕ) (text : List ℕ) (head tail : Option (List ℕ)) (mid : Table) (tree : Tree) → HoldContents (tree_items mid tree) (data_in mid) ino (cleared (get file.blocks) (first_block offset) (end_block offset (length text)))
      → head ≡ edge_of file.blocks offset text (first_block offset) → tail ≡ edge_of file.blocks offset text (end_block offset (length text) - 1)
      → MayPut mid tree ino (cleared (get file.blocks) (first_block offset) (end_block offset (length text))) file.blocks offset text (first_block offset) head tail
  may_put offset text head tail mid tree hold first last = record {
    holds = hold;
    holes = λ number low high. cleared_hole (get file.blocks) (first_block offset) (end_block offset (length text)) number low high;
    head_is = first;
    tail_is = λ number ends. last ∙ ap (edge_of file.blocks offset text) (omega (arith, ends));
  }

  -- by the code's own word for the end
  pub put_now : (offset : ℕ) (text : List ℕ) (head tail : Option (List ℕ)) (mid : Table) (tree : Tree) (end : ℕ) → end ≡ end_block offset (length text) → HoldContents (tree_items mid tree) (data_in mid) ino (cleared (get file.blocks) (first_block offset) end)
      → head ≡ edge_of file.blocks offset text (first_block offset) → tail ≡ edge_of file.blocks offset text (end - 1)
      → MayPut mid tree ino (cleared (get file.blocks) (first_block offset) (end_block offset (length text))) file.blocks offset text (first_block offset) head tail
  put_now offset text head tail mid tree end same hold first last =
      may_put offset text head tail mid tree (subst (λ (e : ℕ). HoldContents (tree_items mid tree) (data_in mid) ino (cleared (get file.blocks) (first_block offset) e)) same hold) first (last ∙ ap (λ (e : ℕ). edge_of file.blocks offset text (e - 1)) same)

  -- what the inode item says that is there
  abbrev pub value_there : InodeValue
  value_there = (inode_there table state.tree run.sub ino file is.gives.gives is.there).value

  pub has_value : HasInode (tree_items table state.tree) ino value_there
  has_value = (inode_there table state.tree run.sub ino file is.gives.gives is.there).has

  pub value_mode : value_there.mode ≡ file_mode
  value_mode = let says = inode_there table state.tree run.sub ino file is.gives.gives is.there in ap (λ (v : InodeValue). v.mode) (sym says.same) ∙ says.says.mode

  pub value_size : value_there.size ≡ file.size
  value_size = let says = inode_there table state.tree run.sub ino file is.gives.gives is.there in ap (λ (v : InodeValue). v.size) (sym says.same) ∙ says.says.size

  pub value_nbytes : value_there.nbytes ≡ 4096 * len file.blocks
  value_nbytes = let says = inode_there table state.tree run.sub ino file is.gives.gives is.there in ap (λ (v : InodeValue). v.nbytes) (sym says.same) ∙ says.says.nbytes

  -- the inode item of the file that is then there
  pub right_item : (next : FileRecord) (value : InodeValue) (running size nbytes : ℕ) → value ≡ value_there → size ≡ next.size → nbytes ≡ 4096 * len next.blocks
      → IsInode (inode_bytes (resized value running size nbytes)) (resized value running size nbytes)
      → IsInodeOf (with_record run.sub ino (FileInode next)) ino (FileInode next) (inode_bytes (resized value running size nbytes))
  right_item next value running size nbytes same size_is nbytes_is spelled =
      let says = inode_there table state.tree run.sub ino file is.gives.gives is.there in
      record {
        value = resized value running size nbytes;
        spelled = spelled;
        mode = ap (λ (v : InodeValue). v.mode) same ∙ value_mode;
        size = size_is;
        nbytes = nbytes_is;
        nlink = ap (λ (v : InodeValue). v.nlink) (same ∙ sym says.same) ∙ says.says.nlink;
      }

-- a write touches 1 to 17 blocks, all below the greatest
pub record Touches (offset count : ℕ) : Type 0 where
  pub order : first_block offset < end_block offset count
  pub few : end_block offset count - first_block offset ≤ 17
  pub most : end_block offset count ≤ 4096

pub touches : (offset count : ℕ) → 1 ≤ count → count ≤ 65536 → offset + count ≤ 16_777_216 → Touches offset count
touches offset count some short few = record { order = omega (arith, some); few = omega (arith, short); most = omega (arith, few) }

-- all put, over the blocks that were there
pub all_put : (items_table : Table) (tree : Tree) (ino : ℕ) (contents : Contents) (fresh : ℕ → List ℕ) (from to : ℕ) → HoldContents (tree_items items_table tree) (data_in items_table) ino (with_blocks (cleared contents from to) fresh from to)
    → HoldContents (tree_items items_table tree) (data_in items_table) ino (with_blocks contents fresh from to)
all_put table tree ino contents fresh from to hold =
    hold_same (tree_items table tree) (data_in table) ino (with_blocks (cleared contents from to) fresh from to) (with_blocks contents fresh from to) (with_cleared contents fresh from to) hold

-- the blocks in front of a number are put, and those from it on may be
pub may_more : (old now : Table) (before after : Tree) (ino : ℕ) (contents : Contents) (blocks : Blocks) (offset : ℕ) (text : List ℕ) (number : ℕ) (head tail : Option (List ℕ)) → first_block offset ≤ number
    → MayPut old before ino contents blocks offset text (first_block offset) head tail
    → HoldIn now after ino (with_blocks contents (block_written blocks offset text) (first_block offset) number)
    → MayPut now after ino (with_blocks contents (block_written blocks offset text) (first_block offset) number) blocks offset text number head tail
may_more old now before after ino contents blocks offset text number head tail low may holds = record {
  holds = holds;
  holes = λ n from to. with_out contents (block_written blocks offset text) (first_block offset) number n (inr from) ∙ may.holes n (omega (arith, low, from)) to;
  head_is = may.head_is;
  tail_is = may.tail_is;
}
