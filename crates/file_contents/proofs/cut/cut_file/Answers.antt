-- The blocks are cut, and then the inode item is written.
use Rattle.std.proofs.Common.{◌≢◌, ◌+◌, ◌-◌, ◌*◌, ℕ, sym, ap, ◌∙◌, arith}
use Rattle.blk_base.specs.Items.{InodeValue}
use Rattle.block_table.specs.declared.state.SlotState.TheVariants.{LetGo}
use Rattle.block_table.specs.declared.tree.SubState.{SubState}
use Rattle.block_table.specs.TreeIn.{block_at}
use Rattle.flat_model.specs.Contents.{truncated}
use Rattle.flat_model.specs.Needs.{blocks_past}
use Rattle.flat_model.proofs.Filled.{truncated_attributes}
use Rattle.item_inode.specs.Inode.{inode_view}
use Rattle.tree_range.specs.Shape.{tree_reach}
use Rattle.tree_range.proofs.Rise.{All-left}
use Rattle.table_volume.specs.Gives.{tree_data}
use Rattle.table_volume.proofs.SubEdits.{sub_more}
use Rattle.file_contents.specs.Given.{resized}
use Rattle.file_contents.proofs.Files.{truncated_size}
use Rattle.file_contents.proofs.Making.{rewrite_makes}
use Rattle.file_contents.proofs.Rewriting.{few_blocks, past_bytes, past_few, rewritten}
use Rattle.file_contents.proofs.Writing.{has_value, value_mode, value_nbytes, value_size, value_there}
use Rattle.file_contents.proofs.cut.cut_file.Goals as goal

pub inode_at-item-requires-clause-there : goal.inode_at-item-requires-clause-there
inode_at-item-requires-clause-there c =
    let g = c.requires.given in
    (value_there c.args.table.now c.args.sub.now g.0 c.args.ino.0 g.1 g.2, has_value c.args.table.now c.args.sub.now g.0 c.args.ino.0 g.1 g.2)

pub cut_blocks-requires : goal.cut_blocks-requires
cut_blocks-requires c =
    let g = c.requires.given in
    let same = c.inode_at-item.ensures (value_there c.args.table.now c.args.sub.now g.0 c.args.ino.0 g.1 g.2) (has_value c.args.table.now c.args.sub.now g.0 c.args.ino.0 g.1 g.2) in
    let size = ap (λ (v : InodeValue). v.size) same ∙ value_size c.args.table.now c.args.sub.now g.0 c.args.ino.0 g.1 g.2 in
    let spare = g.3.spare in
    let free = g.3.free in
    record { given = (g.0, g.1, g.2, sym size, record { spare = omega (arith, spare); free = omega (arith, free) }) }

pub overflow_mul-nbytes : goal.overflow_mul-nbytes
overflow_mul-nbytes c =
    let g = c.requires.given in
    let past = c.blocks_past-past.ensures g.0.sub g.1 (record { gives = g.2.gives.gives; coherent = g.2.gives.sound.coherent }) g.2.there in
    let few = past_few c.args.table.now c.args.sub.now g.0 c.args.ino.0 g.1 g.2 c.args.size c.requires.few in
    let most = few_blocks c.args.table.now c.args.sub.now g.0 c.args.ino.0 g.1 g.2 in
    omega (arith, past, few, most)

pub overflow_sub-nbytes : goal.overflow_sub-nbytes
overflow_sub-nbytes c =
    let g = c.requires.given in
    let same = c.inode_at-item.ensures (value_there c.args.table.now c.args.sub.now g.0 c.args.ino.0 g.1 g.2) (has_value c.args.table.now c.args.sub.now g.0 c.args.ino.0 g.1 g.2) in
    let nbytes = ap (λ (v : InodeValue). v.nbytes) same ∙ value_nbytes c.args.table.now c.args.sub.now g.0 c.args.ino.0 g.1 g.2 in
    let past = c.blocks_past-past.ensures g.0.sub g.1 (record { gives = g.2.gives.gives; coherent = g.2.gives.sound.coherent }) g.2.there in
    let few = past_few c.args.table.now c.args.sub.now g.0 c.args.ino.0 g.1 g.2 c.args.size c.requires.few in
    omega (arith, past, few, nbytes)

pub write_size-requires-clause-current : goal.write_size-requires-clause-current
write_size-requires-clause-current c =
    let g = c.requires.given in
    let table = c.cut_blocks.new.table in
    let tree = c.cut_blocks.new.sub.tree in
    let same = c.inode_at-item.ensures (value_there c.args.table.now c.args.sub.now g.0 c.args.ino.0 g.1 g.2) (has_value c.args.table.now c.args.sub.now g.0 c.args.ino.0 g.1 g.2) in
    let size = ap (λ (v : InodeValue). v.size) same ∙ value_size c.args.table.now c.args.sub.now g.0 c.args.ino.0 g.1 g.2 in
    All-left (λ (at : ℕ). (block_at table at).state ≢ LetGo) (tree_reach table tree) (tree_data table tree) (c.cut_blocks.ensures.edit g.0 g.1 g.2 (sym size)).held.current

pub write_size-requires-clause-tree : goal.write_size-requires-clause-tree
write_size-requires-clause-tree c =
    let g = c.requires.given in
    let same = c.inode_at-item.ensures (value_there c.args.table.now c.args.sub.now g.0 c.args.ino.0 g.1 g.2) (has_value c.args.table.now c.args.sub.now g.0 c.args.ino.0 g.1 g.2) in
    let size = ap (λ (v : InodeValue). v.size) same ∙ value_size c.args.table.now c.args.sub.now g.0 c.args.ino.0 g.1 g.2 in
    (c.cut_blocks.ensures.edit g.0 g.1 g.2 (sym size)).held.stands

pub write_size-requires-clause-mode : goal.write_size-requires-clause-mode
write_size-requires-clause-mode c =
    let g = c.requires.given in
    let same = c.inode_at-item.ensures (value_there c.args.table.now c.args.sub.now g.0 c.args.ino.0 g.1 g.2) (has_value c.args.table.now c.args.sub.now g.0 c.args.ino.0 g.1 g.2) in
    ap (λ (v : InodeValue). v.mode) same ∙ value_mode c.args.table.now c.args.sub.now g.0 c.args.ino.0 g.1 g.2

pub write_size-requires-clause-room : goal.write_size-requires-clause-room
write_size-requires-clause-room c =
    let g = c.requires.given in
    let same = c.inode_at-item.ensures (value_there c.args.table.now c.args.sub.now g.0 c.args.ino.0 g.1 g.2) (has_value c.args.table.now c.args.sub.now g.0 c.args.ino.0 g.1 g.2) in
    let size = ap (λ (v : InodeValue). v.size) same ∙ value_size c.args.table.now c.args.sub.now g.0 c.args.ino.0 g.1 g.2 in
    let taken = (c.cut_blocks.ensures.edit g.0 g.1 g.2 (sym size)).taken in
    let spare = g.3.spare in
    let free = g.3.free in
    let less = taken.spare in
    let fewer = taken.free in
    record { spare = omega (arith, spare, less); free = omega (arith, free, fewer) }

pub returns-clause-made : goal.returns-clause-made
returns-clause-made c = λ run file is.
    let table = c.args.table.now in
    let state = c.args.sub.now in
    let ino = c.args.ino.0 in
    let now : SubState = record { tree = c.write_size.new.tree; next_ino = c.cut_blocks.new.sub.next_ino; next_index = c.cut_blocks.new.sub.next_index; running = c.cut_blocks.new.sub.running } in
    let same = c.inode_at-item.ensures (value_there table state run ino file is) (has_value table state run ino file is) in
    let size = ap (λ (v : InodeValue). v.size) same ∙ value_size table state run ino file is in
    let nbytes = ap (λ (v : InodeValue). v.nbytes) same ∙ value_nbytes table state run ino file is in
    let past = c.blocks_past-past.ensures run.sub file (record { gives = is.gives.gives; coherent = is.gives.sound.coherent }) is.there in
    let most = 2 * blocks_past file c.args.size + 122 in
    let left = c.inode_at-item.result.nbytes - 4096 * c.blocks_past-past.result in
    let h = rewritten table c.cut_blocks.new.table c.write_size.new.table state now c.cut_blocks.new.sub.tree run ino most file (truncated file c.args.size) (inode_view c.inode_at-item.result) c.args.size left is
    (c.cut_blocks.ensures.edit run file is (sym size)) (c.cut_blocks.ensures.contents run file is (sym size)) c.write_size.ensures.edit c.write_size.ensures.spelled same
    (sym (truncated_size file c.args.size)) (past_bytes table state run ino file is c.args.size c.inode_at-item.result.nbytes c.blocks_past-past.result c.requires.few nbytes past)
    (truncated_attributes file c.args.size) (ap (λ (s : SubState). s.running) c.cut_blocks.ensures.state) in
    let m = rewrite_makes table c.cut_blocks.new.table c.write_size.new.table state now c.cut_blocks.new.sub.tree run ino most file (truncated file c.args.size) (resized (inode_view c.inode_at-item.result) state.running c.args.size left) h in
    record { gives = m.gives; edit = sub_more table c.write_size.new.table state now (most + 17) (512 + 2 * blocks_past file c.args.size) m.edit (omega arith) }
