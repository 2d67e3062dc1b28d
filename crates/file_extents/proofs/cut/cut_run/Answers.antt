use Rattle.std.proofs.Common.{◌≢◌, ◌+◌, ◌-◌, ◌*◌, ℕ, arith}
use Rattle.blk_base.specs.Extents.{regular_bytes}
use Rattle.block_table.specs.declared.state.SlotState.TheVariants.{LetGo}
use Rattle.block_table.specs.TreeIn.{block_at}
use Rattle.tree_range.specs.Shape.{tree_items, tree_reach}
use Rattle.tree_range.proofs.Rise.{All-left}
use Rattle.table_volume.specs.Gives.{data_in, tree_data}
use Rattle.file_extents.specs.Extents.{HasRun}
use Rattle.file_extents.proofs.Items.{run_size}
use Rattle.file_extents.proofs.Held.{run_below}
use Rattle.file_extents.proofs.Cutting.{cut_contents, cut_edit, cut_none_other, cut_none_over}
use Rattle.file_extents.proofs.cut.cut_run.Goals as goal

pub overflow_add-behind : goal.overflow_add-behind
overflow_add-behind c =
    let table = c.args.table.now in
    let items = tree_items table c.args.tree.now in
    let run = c.in-Some.run' in
    let known = c.requires.holds in
    let over = c.in-Some.ensures (data_in table) known.0 known.1 in
    let below = run_below table (HasRun items c.args.ino.0) known.0 run.begin run.at.0 run.blocks (c.args.number - run.begin) known.1.are over.run (omega (arith, over.before, over.over)) (omega (arith, c.blocks-blocks.ensures, c.blocks-blocks.type_inv)) in
    omega (arith, below)

pub write_run-requires-clause-current : goal.write_run-requires-clause-current
write_run-requires-clause-current c =
    All-left (λ (at : ℕ). (block_at c.args.table.now at).state ≢ LetGo) (tree_reach c.args.table.now c.args.tree.now) (tree_data c.args.table.now c.args.tree.now) c.requires.held.current

pub write_run-requires-clause-most : goal.write_run-requires-clause-most
write_run-requires-clause-most c =
    let known = c.requires.holds in
    let over = c.in-Some.ensures (data_in c.args.table.now) known.0 known.1 in
    let size = run_size (tree_items c.args.table.now c.args.tree.now) c.args.ino.0 c.in-Some.run'.begin c.in-Some.run'.at.0 c.in-Some.run'.blocks over.run in
    omega (arith, size.most)

pub write_run-requires-in-Some-clause-most : goal.write_run-requires-in-Some-clause-most
write_run-requires-in-Some-clause-most c =
    let known = c.requires.holds in
    let over = c.in-Some.ensures (data_in c.args.table.now) known.0 known.1 in
    let size = run_size (tree_items c.args.table.now c.args.tree.now) c.args.ino.0 c.in-Some.run'.begin c.in-Some.run'.at.0 c.in-Some.run'.blocks over.run in
    omega (arith, size.most, over.over, over.before)

pub returns-in-Some-clause-edit : goal.returns-in-Some-clause-edit
returns-in-Some-clause-edit c =
    let run = c.in-Some.run' in
    let known = c.requires.holds in
    let over = c.in-Some.ensures (data_in c.args.table.now) known.0 known.1 in
    cut_edit c.args.table.now c.write_run.new.table c.write_run-in-Some.new.table c.args.tree.now c.write_run.new.tree c.write_run-in-Some.new.tree c.args.running c.args.ino.0 c.args.number run.begin run.at.0 run.blocks
    (regular_bytes c.args.running (run.at.0 + 4096 * (c.args.number - run.begin)) (4096 * (run.blocks - (c.args.number - run.begin)))) (regular_bytes c.args.running run.at.0 (4096 * (c.args.number - run.begin)))
    c.requires.held over c.write_run.ensures.edit c.write_run.ensures.items c.write_run.ensures.read c.write_run-in-Some.ensures.edit c.write_run-in-Some.ensures.items c.write_run-in-Some.ensures.read known.0 known.1

pub returns-in-Some-clause-contents : goal.returns-in-Some-clause-contents
returns-in-Some-clause-contents c =
    let run = c.in-Some.run' in
    let known = c.requires.holds in
    let over = c.in-Some.ensures (data_in c.args.table.now) known.0 known.1 in
    cut_contents c.args.table.now c.write_run.new.table c.write_run-in-Some.new.table c.args.tree.now c.write_run.new.tree c.write_run-in-Some.new.tree c.args.running c.args.ino.0 c.args.number run.begin run.at.0 run.blocks
    (regular_bytes c.args.running (run.at.0 + 4096 * (c.args.number - run.begin)) (4096 * (run.blocks - (c.args.number - run.begin)))) (regular_bytes c.args.running run.at.0 (4096 * (c.args.number - run.begin)))
    c.requires.held over c.write_run.ensures.edit c.write_run.ensures.items c.write_run.ensures.read c.write_run-in-Some.ensures.edit c.write_run-in-Some.ensures.items c.write_run-in-Some.ensures.read known.0 known.1

pub returns-in-Some-clause-none : goal.returns-in-Some-clause-none
returns-in-Some-clause-none c =
    let run = c.in-Some.run' in
    let known = c.requires.holds in
    let over = c.in-Some.ensures (data_in c.args.table.now) known.0 known.1 in
    cut_none_over c.args.table.now c.write_run.new.table c.write_run-in-Some.new.table c.args.tree.now c.write_run.new.tree c.write_run-in-Some.new.tree c.args.running c.args.ino.0 c.args.number run.begin run.at.0 run.blocks
    (regular_bytes c.args.running (run.at.0 + 4096 * (c.args.number - run.begin)) (4096 * (run.blocks - (c.args.number - run.begin)))) (regular_bytes c.args.running run.at.0 (4096 * (c.args.number - run.begin)))
    c.requires.held over c.write_run.ensures.edit c.write_run.ensures.items c.write_run.ensures.read c.write_run-in-Some.ensures.edit c.write_run-in-Some.ensures.items c.write_run-in-Some.ensures.read known.0 known.1

pub returns-in-Some-clause-others : goal.returns-in-Some-clause-others
returns-in-Some-clause-others c =
    let run = c.in-Some.run' in
    let known = c.requires.holds in
    let over = c.in-Some.ensures (data_in c.args.table.now) known.0 known.1 in
    cut_none_other c.args.table.now c.write_run.new.table c.write_run-in-Some.new.table c.args.tree.now c.write_run.new.tree c.write_run-in-Some.new.tree c.args.running c.args.ino.0 c.args.number run.begin run.at.0 run.blocks
    (regular_bytes c.args.running (run.at.0 + 4096 * (c.args.number - run.begin)) (4096 * (run.blocks - (c.args.number - run.begin)))) (regular_bytes c.args.running run.at.0 (4096 * (c.args.number - run.begin)))
    c.requires.held over c.write_run.ensures.edit c.write_run.ensures.items c.write_run.ensures.read c.write_run-in-Some.ensures.edit c.write_run-in-Some.ensures.items c.write_run-in-Some.ensures.read known.0 known.1

pub write_run-requires-clause-at : goal.write_run-requires-clause-at
write_run-requires-clause-at c =
    let table = c.args.table.now in
    let items = tree_items table c.args.tree.now in
    let run = c.in-Some.run' in
    let known = c.requires.holds in
    let over = c.in-Some.ensures (data_in table) known.0 known.1 in
    let below = run_below table (HasRun items c.args.ino.0) known.0 run.begin run.at.0 run.blocks (c.args.number - run.begin) known.1.are over.run (omega (arith, over.before, over.over)) (omega (arith, c.blocks-blocks.ensures, c.blocks-blocks.type_inv)) in
    omega (arith, below)
