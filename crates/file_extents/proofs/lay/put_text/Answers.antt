use Rattle.std.proofs.Common.{◌≡◌, ◌≢◌, ◌+◌, ◌-◌, ◌*◌, ◌++◌, ℕ, subst, arith}
use Rattle.blk_base.specs.Extents.{regular_bytes}
use Rattle.block_table.specs.declared.state.SlotState.TheVariants.{LetGo}
use Rattle.block_table.specs.TreeIn.{block_at}
use Rattle.tree_range.specs.Shape.{tree_items, tree_reach}
use Rattle.tree_range.proofs.Rise.{All-left}
use Rattle.table_volume.specs.Gives.{data_in, tree_data}
use Rattle.volume_image.specs.Subvolume.{run_addresses}
use Rattle.file_extents.specs.Extents.{AreHoles, Contents, HasRun, HoldContents, IsContentEdit, text_block, with_blocks}
use Rattle.file_extents.proofs.Filling.{IsGrown, fill_contents, fill_edit, fill_others, fill_run, grown, held_mid, joins_end}
use Rattle.file_extents.proofs.lay.put_text.Goals as goal

pub write_run-requires-clause-tree : goal.write_run-requires-clause-tree
write_run-requires-clause-tree c =
    let fresh = c.fresh_run-fresh.result in
    (held_mid c.args.table.now c.fresh_run-fresh.new.table c.args.tree.now fresh.at.0 fresh.blocks (λ i. text_block c.args.offset c.args.text.now (c.args.number + i)) c.requires.held c.fresh_run-fresh.ensures.taken).stands

pub write_run-requires-clause-current : goal.write_run-requires-clause-current
write_run-requires-clause-current c =
    let fresh = c.fresh_run-fresh.result in
    All-left (λ (at : ℕ). (block_at c.fresh_run-fresh.new.table at).state ≢ LetGo) (tree_reach c.fresh_run-fresh.new.table c.args.tree.now) (tree_data c.args.table.now c.args.tree.now ++ run_addresses fresh.at.0 fresh.blocks)
    (held_mid c.args.table.now c.fresh_run-fresh.new.table c.args.tree.now fresh.at.0 fresh.blocks (λ i. text_block c.args.offset c.args.text.now (c.args.number + i)) c.requires.held c.fresh_run-fresh.ensures.taken).current

abbrev blocks_now : goal.After-write_run → ℕ
blocks_now c = c.joined-first.result.blocks + c.fresh_run-fresh.result.blocks - 1

is_grown : (c : goal.After-write_run) → IsGrown (HasRun (tree_items c.args.table.now c.args.tree.now) c.args.ino.0) c.args.number c.fresh_run-fresh.result.at.0 c.fresh_run-fresh.result.blocks c.joined-first.result.begin c.joined-first.result.at.0 (blocks_now c)
is_grown c =
    let first = c.joined-first.result in
    let fresh = c.fresh_run-fresh.result in
    let front = c.args.front in
    grown (HasRun (tree_items c.args.table.now c.args.tree.now) c.args.ino.0) front.begin front.at.0 front.blocks c.args.number fresh.at.0 first.begin first.at.0 first.blocks (blocks_now c) fresh.blocks c.requires.front c.joined-first.ensures (omega (arith, c.fresh_run-fresh.ensures.some))

-- the run ends with the last of the blocks
ends : (c : goal.After-write_run) → c.joined-first.result.begin + blocks_now c ≡ c.args.number + c.fresh_run-fresh.result.blocks
ends c =
    let first = c.joined-first.result in
    let front = c.args.front in
    omega (arith, joins_end front.begin front.at.0 front.blocks c.args.number c.fresh_run-fresh.result.at.0 first.begin first.at.0 first.blocks c.joined-first.ensures, c.fresh_run-fresh.ensures.some)

holes : (c : goal.After-write_run) (contents : Contents) → AreHoles contents c.args.number c.args.end → AreHoles contents c.args.number (c.args.number + c.fresh_run-fresh.result.blocks)
holes c contents none = λ n low high. none n low (omega (arith, high, c.fresh_run-fresh.ensures.most, c.min-most.ensures, c.requires.order))

pub returns-clause-edit : goal.returns-clause-edit
returns-clause-edit c =
    let first = c.joined-first.result in
    let fresh = c.fresh_run-fresh.result in
    let w = c.write_run.ensures in
    let h = c.requires.holes in
    subst (λ (n : ℕ). IsContentEdit c.args.table.now c.write_run.new.table c.args.tree.now c.write_run.new.tree c.args.running c.args.ino.0 n) (omega (arith, ends c))
    (fill_edit c.args.table.now c.fresh_run-fresh.new.table c.write_run.new.table c.args.tree.now c.write_run.new.tree c.args.running c.args.ino.0 c.args.number fresh.at.0 fresh.blocks first.begin first.at.0 (blocks_now c) (text_block c.args.offset c.args.text.now)
    (regular_bytes c.args.running first.at.0 (4096 * blocks_now c)) c.requires.held c.fresh_run-fresh.ensures.taken c.fresh_run-fresh.ensures.some (is_grown c) w.edit w.items w.read h.0 h.1 (holes c h.0 h.2))

pub returns-clause-contents : goal.returns-clause-contents
returns-clause-contents c = λ contents hold none.
    let first = c.joined-first.result in
    let fresh = c.fresh_run-fresh.result in
    let w = c.write_run.ensures in
    let h = c.requires.holes in
    let text = text_block c.args.offset c.args.text.now in
    subst (λ (n : ℕ). HoldContents (tree_items c.write_run.new.table c.write_run.new.tree) (data_in c.write_run.new.table) c.args.ino.0 (with_blocks contents (text_block c.args.offset c.args.text.now) c.args.number n)) (omega (arith, ends c))
    (fill_contents c.args.table.now c.fresh_run-fresh.new.table c.write_run.new.table c.args.tree.now c.write_run.new.tree c.args.running c.args.ino.0 c.args.number fresh.at.0 fresh.blocks first.begin first.at.0 (blocks_now c) text
    (regular_bytes c.args.running first.at.0 (4096 * blocks_now c)) c.requires.held c.fresh_run-fresh.ensures.taken c.fresh_run-fresh.ensures.some (is_grown c) w.edit w.items w.read h.0 h.1 (holes c h.0 h.2) contents hold (holes c contents none))

pub returns-clause-run : goal.returns-clause-run
returns-clause-run c =
    let first = c.joined-first.result in
    let fresh = c.fresh_run-fresh.result in
    let w = c.write_run.ensures in
    let h = c.requires.holes in
    fill_run c.args.table.now c.fresh_run-fresh.new.table c.write_run.new.table c.args.tree.now c.write_run.new.tree c.args.running c.args.ino.0 c.args.number fresh.at.0 fresh.blocks first.begin first.at.0 (blocks_now c) (text_block c.args.offset c.args.text.now)
    (regular_bytes c.args.running first.at.0 (4096 * blocks_now c)) c.requires.held c.fresh_run-fresh.ensures.taken c.fresh_run-fresh.ensures.some (is_grown c) w.edit w.items w.read h.0 h.1 (holes c h.0 h.2)

pub returns-clause-others : goal.returns-clause-others
returns-clause-others c = λ b x n other.
    let first = c.joined-first.result in
    let fresh = c.fresh_run-fresh.result in
    let w = c.write_run.ensures in
    let h = c.requires.holes in
    fill_others c.args.table.now c.fresh_run-fresh.new.table c.write_run.new.table c.args.tree.now c.write_run.new.tree c.args.running c.args.ino.0 c.args.number fresh.at.0 fresh.blocks first.begin first.at.0 (blocks_now c) (text_block c.args.offset c.args.text.now)
    (regular_bytes c.args.running first.at.0 (4096 * blocks_now c)) c.requires.held c.fresh_run-fresh.ensures.taken c.fresh_run-fresh.ensures.some (is_grown c) w.edit w.items w.read h.0 h.1 (holes c h.0 h.2) b x n other
