-- The block is taken as a run of one.
use Rattle.std.proofs.Common.{◌*◌, ◌≢◌, ◌++◌, ◌+◌, ℕ, arith}
use Rattle.blk_base.specs.Extents.{regular_bytes}
use Rattle.block_table.specs.declared.state.SlotState.TheVariants.{LetGo}
use Rattle.block_table.specs.TreeIn.{block_at}
use Rattle.tree_range.specs.Shape.{tree_items, tree_reach}
use Rattle.tree_range.proofs.Rise.{All-left}
use Rattle.table_volume.specs.Gives.{data_in, tree_data}
use Rattle.volume_image.specs.Subvolume.{run_addresses}
use Rattle.file_extents.specs.Extents.{AreTakenAt, HasRun, with_block, with_blocks}
use Rattle.file_extents.proofs.Filling.{IsGrown, fill_contents, fill_edit, fill_others, fill_run, grown, held_mid}
use Rattle.file_extents.proofs.Runs.{hold_same, hole_one, with_one}
use Rattle.file_extents.proofs.Taking.{taken_one}
use Rattle.file_extents.proofs.fill.put_block.Goals as goal

pub write_run-requires-clause-tree : goal.write_run-requires-clause-tree
write_run-requires-clause-tree c =
    let e = c.fresh-at.ensures in
    let taken = taken_one c.args.table.now c.fresh-at.new.table c.fresh-at.result.0 (λ i. c.args.content.now) e.taken e.bytes e.others e.spare e.free in
    (held_mid c.args.table.now c.fresh-at.new.table c.args.tree.now c.fresh-at.result.0 1 (λ i. c.args.content.now) c.requires.held taken).stands

pub write_run-requires-clause-current : goal.write_run-requires-clause-current
write_run-requires-clause-current c =
    let e = c.fresh-at.ensures in
    let taken = taken_one c.args.table.now c.fresh-at.new.table c.fresh-at.result.0 (λ i. c.args.content.now) e.taken e.bytes e.others e.spare e.free in
    All-left (λ (at : ℕ). (block_at c.fresh-at.new.table at).state ≢ LetGo) (tree_reach c.fresh-at.new.table c.args.tree.now) (tree_data c.args.table.now c.args.tree.now ++ run_addresses c.fresh-at.result.0 1)
    (held_mid c.args.table.now c.fresh-at.new.table c.args.tree.now c.fresh-at.result.0 1 (λ i. c.args.content.now) c.requires.held taken).current

taken : (c : goal.After-write_run) → AreTakenAt c.args.table.now c.fresh-at.new.table c.fresh-at.result.0 1 (λ i. c.args.content.now)
taken c =
    let e = c.fresh-at.ensures in
    taken_one c.args.table.now c.fresh-at.new.table c.fresh-at.result.0 (λ i. c.args.content.now) e.taken e.bytes e.others e.spare e.free

is_grown : (c : goal.After-write_run) → IsGrown (HasRun (tree_items c.args.table.now c.args.tree.now) c.args.ino.0) c.args.number c.fresh-at.result.0 1 c.joined-run.result.begin c.joined-run.result.at.0 c.joined-run.result.blocks
is_grown c =
    let run = c.joined-run.result in
    grown (HasRun (tree_items c.args.table.now c.args.tree.now) c.args.ino.0) c.args.front.begin c.args.front.at.0 c.args.front.blocks c.args.number c.fresh-at.result.0 run.begin run.at.0 run.blocks run.blocks 1 c.requires.front c.joined-run.ensures (omega arith)

pub returns-clause-edit : goal.returns-clause-edit
returns-clause-edit c =
    let run = c.joined-run.result in
    let w = c.write_run.ensures in
    let h = c.requires.hole in
    fill_edit c.args.table.now c.fresh-at.new.table c.write_run.new.table c.args.tree.now c.write_run.new.tree c.args.running c.args.ino.0 c.args.number c.fresh-at.result.0 1 run.begin run.at.0 run.blocks (λ n. c.args.content.now)
    (regular_bytes c.args.running run.at.0 (4096 * run.blocks)) c.requires.held (taken c) (omega arith) (is_grown c) w.edit w.items w.read h.0 h.1 (hole_one h.0 c.args.number h.2)

pub returns-clause-contents : goal.returns-clause-contents
returns-clause-contents c = λ contents holds none.
    let run = c.joined-run.result in
    let w = c.write_run.ensures in
    let h = c.requires.hole in
    let number = c.args.number in
    hold_same (tree_items c.write_run.new.table c.write_run.new.tree) (data_in c.write_run.new.table) c.args.ino.0 (with_blocks contents (λ n. c.args.content.now) number (number + 1)) (with_block contents number c.args.content.now) (with_one contents c.args.content.now number)
    (fill_contents c.args.table.now c.fresh-at.new.table c.write_run.new.table c.args.tree.now c.write_run.new.tree c.args.running c.args.ino.0 number c.fresh-at.result.0 1 run.begin run.at.0 run.blocks (λ n. c.args.content.now)
    (regular_bytes c.args.running run.at.0 (4096 * run.blocks)) c.requires.held (taken c) (omega arith) (is_grown c) w.edit w.items w.read h.0 h.1 (hole_one h.0 number h.2) contents holds (hole_one contents number none))

pub returns-clause-run : goal.returns-clause-run
returns-clause-run c =
    let run = c.joined-run.result in
    let w = c.write_run.ensures in
    let h = c.requires.hole in
    fill_run c.args.table.now c.fresh-at.new.table c.write_run.new.table c.args.tree.now c.write_run.new.tree c.args.running c.args.ino.0 c.args.number c.fresh-at.result.0 1 run.begin run.at.0 run.blocks (λ n. c.args.content.now)
    (regular_bytes c.args.running run.at.0 (4096 * run.blocks)) c.requires.held (taken c) (omega arith) (is_grown c) w.edit w.items w.read h.0 h.1 (hole_one h.0 c.args.number h.2)

pub returns-clause-others : goal.returns-clause-others
returns-clause-others c = λ b x n other.
    let run = c.joined-run.result in
    let w = c.write_run.ensures in
    let h = c.requires.hole in
    fill_others c.args.table.now c.fresh-at.new.table c.write_run.new.table c.args.tree.now c.write_run.new.tree c.args.running c.args.ino.0 c.args.number c.fresh-at.result.0 1 run.begin run.at.0 run.blocks (λ n. c.args.content.now)
    (regular_bytes c.args.running run.at.0 (4096 * run.blocks)) c.requires.held (taken c) (omega arith) (is_grown c) w.edit w.items w.read h.0 h.1 (hole_one h.0 c.args.number h.2) b x n other
