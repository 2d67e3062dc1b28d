-- The blocks are written, and then the inode item.
use Rattle.std.proofs.Common.{◌≡◌, ◌≢◌, ◌+◌, ◌-◌, ◌*◌, ◌/◌, ℕ, length, ap, ◌∙◌, arith}
use Rattle.std.specs.FinMap.{get}
use Rattle.blk_base.specs.Items.{InodeValue}
use Rattle.block_table.specs.declared.state.SlotState.TheVariants.{LetGo}
use Rattle.block_table.specs.declared.tree.SubState.{SubState}
use Rattle.block_table.specs.TreeIn.{block_at}
use Rattle.flat_model.specs.Contents.{block_written, written}
use Rattle.flat_model.specs.Records.{FileRecord}
use Rattle.flat_model.specs.Volume.{RunSub}
use Rattle.flat_model.proofs.Filled.{written_attributes}
use Rattle.file_extents.specs.Extents.{with_blocks}
use Rattle.file_extents.proofs.Runs.{hold_same}
use Rattle.item_inode.specs.Inode.{inode_view}
use Rattle.tree_range.specs.Shape.{tree_items, tree_reach}
use Rattle.tree_range.proofs.Rise.{All-left}
use Rattle.table_volume.specs.Gives.{data_in, tree_data}
use Rattle.file_contents.specs.Given.{GivesFile, resized}
use Rattle.file_contents.specs.Written.{end_block, first_block}
use Rattle.file_contents.proofs.Counting.{held_most}
use Rattle.file_contents.proofs.Files.{written_at, written_size}
use Rattle.file_contents.proofs.Given.{holds}
use Rattle.file_contents.proofs.Making.{IsRewrite, joined_stays, rewrite_makes}
use Rattle.file_contents.proofs.Rewriting.{few_blocks, rewritten, written_nbytes}
use Rattle.file_contents.proofs.Writing.{has_value, touches, value_mode, value_nbytes, value_size, value_there}
use Rattle.file_contents.proofs.write.write_file.Goals as goal

abbrev after_all : goal.After-write_size → SubState
after_all c = record { tree = c.write_size.new.tree; next_ino = c.write_blocks.new.sub.next_ino; next_index = c.write_blocks.new.sub.next_index; running = c.write_blocks.new.sub.running }

rewrites : (c : goal.After-write_size) (run : RunSub) (file : FileRecord) → GivesFile c.args.table.now c.args.sub.now run c.args.ino.0 file
    → IsRewrite c.args.table.now c.write_blocks.new.table c.write_size.new.table c.args.sub.now (after_all c) c.write_blocks.new.sub.tree run c.args.ino.0 442 file (written file c.args.offset c.args.text.now)
    (resized (inode_view c.inode_at-item.result) c.args.sub.now.running c.max-size.result (c.inode_at-item.result.nbytes + 4096 * (c.end_of-end.result - c.args.offset / 4096 - c.held_blocks.result)))
rewrites c run file is =
    let table = c.args.table.now in
    let state = c.args.sub.now in
    let ino = c.args.ino.0 in
    let offset = c.args.offset in
    let text = c.args.text.now in
    let same = c.inode_at-item.ensures (value_there table state run ino file is) (has_value table state run ino file is) in
    let size = ap (λ (v : InodeValue). v.size) same ∙ value_size table state run ino file is in
    let nbytes = ap (λ (v : InodeValue). v.nbytes) same ∙ value_nbytes table state run ino file is in
    let size_now : c.max-size.result ≡ (written file offset text).size = omega (arith, c.max-size.ensures, size, c.len.ensures.value, written_size file offset text) in
    let t = touches offset (length text) c.requires.some c.requires.short c.requires.few in
    let held_is = c.held_blocks.ensures (data_in table) (get file.blocks) (holds table state run ino file is) in
    rewritten table c.write_blocks.new.table c.write_size.new.table state (after_all c) c.write_blocks.new.sub.tree run ino 442 file (written file offset text) (inode_view c.inode_at-item.result) c.max-size.result
    (c.inode_at-item.result.nbytes + 4096 * (c.end_of-end.result - offset / 4096 - c.held_blocks.result)) is
    c.write_blocks.ensures.edit
    (hold_same (tree_items c.write_blocks.new.table c.write_blocks.new.sub.tree) (data_in c.write_blocks.new.table) ino
    (with_blocks (get file.blocks) (block_written file.blocks offset text) (first_block offset) (end_block offset (length text))) (get (written file offset text).blocks) (written_at file offset text) (c.write_blocks.ensures.contents run file is))
    c.write_size.ensures.edit c.write_size.ensures.spelled same size_now
    (written_nbytes table state run ino file is offset text c.end_of-end.result c.held_blocks.result c.inode_at-item.result.nbytes c.end_of-end.ensures held_is nbytes t.most)
    (written_attributes file offset text) (ap (λ (s : SubState). s.running) c.write_blocks.ensures.state)

pub inode_at-item-requires-clause-there : goal.inode_at-item-requires-clause-there
inode_at-item-requires-clause-there c =
    let g = c.requires.given in
    (value_there c.args.table.now c.args.sub.now g.0 c.args.ino.0 g.1 g.2, has_value c.args.table.now c.args.sub.now g.0 c.args.ino.0 g.1 g.2)

pub overflow_sub-more-2 : goal.overflow_sub-more-2
overflow_sub-more-2 c =
    let g = c.requires.given in
    let first = c.args.offset / 4096 in
    let held_is = c.held_blocks.ensures (data_in c.args.table.now) (get g.1.blocks) (holds c.args.table.now c.args.sub.now g.0 c.args.ino.0 g.1 g.2) in
    let most = held_most (get g.1.blocks) (c.end_of-end.result - first) first in
    omega (arith, held_is, most)

pub overflow_add-nbytes : goal.overflow_add-nbytes
overflow_add-nbytes c =
    let g = c.requires.given in
    let same = c.inode_at-item.ensures (value_there c.args.table.now c.args.sub.now g.0 c.args.ino.0 g.1 g.2) (has_value c.args.table.now c.args.sub.now g.0 c.args.ino.0 g.1 g.2) in
    let nbytes = ap (λ (v : InodeValue). v.nbytes) same ∙ value_nbytes c.args.table.now c.args.sub.now g.0 c.args.ino.0 g.1 g.2 in
    let few = few_blocks c.args.table.now c.args.sub.now g.0 c.args.ino.0 g.1 g.2 in
    let t = touches c.args.offset (length c.args.text.now) c.requires.some c.requires.short c.requires.few in
    omega (arith, nbytes, few, t.few, c.end_of-end.ensures)

pub write_size-requires-clause-current : goal.write_size-requires-clause-current
write_size-requires-clause-current c =
    let table = c.write_blocks.new.table in
    let tree = c.write_blocks.new.sub.tree in
    All-left (λ (at : ℕ). (block_at table at).state ≢ LetGo) (tree_reach table tree) (tree_data table tree) c.write_blocks.ensures.edit.held.current

pub write_size-requires-clause-mode : goal.write_size-requires-clause-mode
write_size-requires-clause-mode c =
    let g = c.requires.given in
    let same = c.inode_at-item.ensures (value_there c.args.table.now c.args.sub.now g.0 c.args.ino.0 g.1 g.2) (has_value c.args.table.now c.args.sub.now g.0 c.args.ino.0 g.1 g.2) in
    ap (λ (v : InodeValue). v.mode) same ∙ value_mode c.args.table.now c.args.sub.now g.0 c.args.ino.0 g.1 g.2

pub returns-clause-made : goal.returns-clause-made
returns-clause-made c = λ run file is.
    rewrite_makes c.args.table.now c.write_blocks.new.table c.write_size.new.table c.args.sub.now (after_all c) c.write_blocks.new.sub.tree run c.args.ino.0 442 file (written file c.args.offset c.args.text.now)
    (resized (inode_view c.inode_at-item.result) c.args.sub.now.running c.max-size.result (c.inode_at-item.result.nbytes + 4096 * (c.end_of-end.result - c.args.offset / 4096 - c.held_blocks.result))) (rewrites c run file is)

pub returns-clause-joined : goal.returns-clause-joined
returns-clause-joined c =
    let g = c.requires.given in
    joined_stays c.args.table.now c.write_blocks.new.table c.write_size.new.table c.args.sub.now (after_all c) c.write_blocks.new.sub.tree g.0 c.args.ino.0 442 g.1 (written g.1 c.args.offset c.args.text.now)
    (resized (inode_view c.inode_at-item.result) c.args.sub.now.running c.max-size.result (c.inode_at-item.result.nbytes + 4096 * (c.end_of-end.result - c.args.offset / 4096 - c.held_blocks.result))) (rewrites c g.0 g.1 g.2)
    (c.args.offset / 4096) (end_block c.args.offset (length c.args.text.now)) c.write_blocks.ensures.joined
