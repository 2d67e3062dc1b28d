use Rattle.std.proofs.Common.{◌≢◌, ◌+◌, ◌-◌, ◌*◌, ◌++◌, ℕ, List, length, ap, arith}
use Rattle.blk_base.specs.declared.key.Key.{Key}
use Rattle.blk_base.specs.Keys.{extent_data}
use Rattle.blk_base.specs.Leaf.{Item}
use Rattle.block_table.specs.declared.state.SlotState.TheVariants.{LetGo}
use Rattle.block_table.specs.TreeIn.{block_at}
use Rattle.tree_range.specs.Between.{items_between}
use Rattle.tree_range.specs.Shape.{tree_items, tree_reach}
use Rattle.tree_range.proofs.Rise.{All-left}
use Rattle.data_release.specs.LetGo.{behind, files, in_front}
use Rattle.volume_image.specs.Subvolume.{make_key}
use Rattle.file_extents.specs.Extents.{IsContentEdit, held_between}
use Rattle.file_extents.proofs.Held.{content_edit_more, content_edits_join}
use Rattle.file_extents.proofs.Clearing.{clear_contents, clear_edit, few_between, held_mid, items_mid, offsets_stay}
use Rattle.file_extents.proofs.clear.clear_blocks.Goals as goal

pub let_go_between-requires-clause-offsets : goal.let_go_between-requires-clause-offsets
let_go_between-requires-clause-offsets c =
    let known = c.requires.holds in
    let one = c.cut_run.ensures.contents known.0 known.1.holds in
    let two = c.cut_run-2.ensures.contents known.0 one in
    let both : IsContentEdit c.args.table.now c.cut_run-2.new.table c.args.tree.now c.cut_run-2.new.tree c.args.running c.args.ino.0 68 = content_edits_join c.args.table.now c.cut_run.new.table c.cut_run-2.new.table c.args.tree.now c.cut_run.new.tree c.cut_run-2.new.tree c.args.running c.args.ino.0 34 34 c.cut_run.ensures.edit c.cut_run-2.ensures.edit in
    offsets_stay c.args.table.now c.cut_run-2.new.table c.args.tree.now c.cut_run-2.new.tree c.args.running c.args.ino.0 68 known.0 c.requires.held both two known.1.small c.requires.offsets

pub delete_range-requires-clause-tree : goal.delete_range-requires-clause-tree
delete_range-requires-clause-tree c =
    let items = tree_items c.cut_run-2.new.table c.cut_run-2.new.tree in
    (held_mid c.cut_run-2.new.table c.let_go_between.new.table c.cut_run-2.new.tree (files (in_front (make_key c.args.ino.0 extent_data (4096 * c.args.from)) items) ++ files (behind (make_key c.args.ino.0 extent_data (4096 * c.args.to - 1)) items)) c.cut_run-2.ensures.edit.held c.let_go_between.ensures).stands

pub delete_range-requires-clause-current : goal.delete_range-requires-clause-current
delete_range-requires-clause-current c =
    let items = tree_items c.cut_run-2.new.table c.cut_run-2.new.tree in
    let rest = files (in_front (make_key c.args.ino.0 extent_data (4096 * c.args.from)) items) ++ files (behind (make_key c.args.ino.0 extent_data (4096 * c.args.to - 1)) items) in
    All-left (λ (at : ℕ). (block_at c.let_go_between.new.table at).state ≢ LetGo) (tree_reach c.let_go_between.new.table c.cut_run-2.new.tree) rest
    (held_mid c.cut_run-2.new.table c.let_go_between.new.table c.cut_run-2.new.tree rest c.cut_run-2.ensures.edit.held c.let_go_between.ensures).current

pub delete_range-requires-clause-spare : goal.delete_range-requires-clause-spare
delete_range-requires-clause-spare c =
    let ino = c.args.ino.0 in
    let from = c.args.from in
    let to = c.args.to in
    let table = c.cut_run-2.new.table in
    let tree = c.cut_run-2.new.tree in
    let items = tree_items table tree in
    let first : Key = make_key ino extent_data (4096 * from) in
    let last : Key = make_key ino extent_data (4096 * to - 1) in
    let rest = files (in_front first items) ++ files (behind last items) in
    let same = ap (λ (l : List Item). length (items_between first last l)) (items_mid table c.let_go_between.new.table tree rest c.cut_run-2.ensures.edit.held c.let_go_between.ensures) in
    let known = c.requires.holds in
    let two = c.cut_run-2.ensures.contents known.0 (c.cut_run.ensures.contents known.0 known.1.holds) in
    let few = few_between items table ino from to known.0 c.cut_run-2.ensures.edit.held.stands.order two c.requires.order in
    omega (arith, same, few, known.1.room.spare, c.cut_run.ensures.edit.taken.spare, c.cut_run-2.ensures.edit.taken.spare, c.let_go_between.ensures.takes.spare)

pub delete_range-requires-clause-free : goal.delete_range-requires-clause-free
delete_range-requires-clause-free c =
    let ino = c.args.ino.0 in
    let from = c.args.from in
    let to = c.args.to in
    let table = c.cut_run-2.new.table in
    let tree = c.cut_run-2.new.tree in
    let items = tree_items table tree in
    let first : Key = make_key ino extent_data (4096 * from) in
    let last : Key = make_key ino extent_data (4096 * to - 1) in
    let rest = files (in_front first items) ++ files (behind last items) in
    let same = ap (λ (l : List Item). length (items_between first last l)) (items_mid table c.let_go_between.new.table tree rest c.cut_run-2.ensures.edit.held c.let_go_between.ensures) in
    let known = c.requires.holds in
    let two = c.cut_run-2.ensures.contents known.0 (c.cut_run.ensures.contents known.0 known.1.holds) in
    let few = few_between items table ino from to known.0 c.cut_run-2.ensures.edit.held.stands.order two c.requires.order in
    omega (arith, same, few, known.1.room.free, c.cut_run.ensures.edit.taken.free, c.cut_run-2.ensures.edit.taken.free, c.let_go_between.ensures.takes.free)

pub returns-clause-edit : goal.returns-clause-edit
returns-clause-edit c = λ contents hold.
    let ino = c.args.ino.0 in
    let from = c.args.from in
    let to = c.args.to in
    let table = c.cut_run-2.new.table in
    let tree = c.cut_run-2.new.tree in
    let items = tree_items table tree in
    let first : Key = make_key ino extent_data (4096 * from) in
    let last : Key = make_key ino extent_data (4096 * to - 1) in
    let rest = files (in_front first items) ++ files (behind last items) in
    let same = ap (λ (l : List Item). length (items_between first last l)) (items_mid table c.let_go_between.new.table tree rest c.cut_run-2.ensures.edit.held c.let_go_between.ensures) in
    let running = c.args.running in
    let two = c.cut_run-2.ensures.contents contents (c.cut_run.ensures.contents contents hold) in
    let few = few_between items table ino from to contents c.cut_run-2.ensures.edit.held.stands.order two c.requires.order in
    let most = 2 * held_between contents from (to - from) + 34 in
    let third : IsContentEdit table c.delete_range.new.table tree c.delete_range.new.tree running ino most =
    content_edit_more table c.delete_range.new.table tree c.delete_range.new.tree running ino (2 * length (items_between first last (tree_items c.let_go_between.new.table tree)) + 34) most
    (clear_edit table c.let_go_between.new.table c.delete_range.new.table tree c.delete_range.new.tree c.args.running ino from to (2 * length (items_between first last (tree_items c.let_go_between.new.table tree)) + 34) c.requires.order c.cut_run-2.ensures.edit.held c.let_go_between.ensures
    c.delete_range.ensures.tree c.delete_range.ensures.items c.delete_range.ensures.owner c.delete_range.ensures.edit c.delete_range.ensures.current c.delete_range.ensures.blocks c.delete_range.ensures.sealed) (omega (arith, same, few)) in
    let both = content_edits_join c.args.table.now c.cut_run.new.table table c.args.tree.now c.cut_run.new.tree tree running ino 34 34 c.cut_run.ensures.edit c.cut_run-2.ensures.edit in
    content_edit_more c.args.table.now c.delete_range.new.table c.args.tree.now c.delete_range.new.tree running ino (34 + 34 + most) (2 * held_between contents from (to - from) + 102)
    (content_edits_join c.args.table.now table c.delete_range.new.table c.args.tree.now tree c.delete_range.new.tree running ino (34 + 34) most both third) (omega arith)

pub returns-clause-contents : goal.returns-clause-contents
returns-clause-contents c = λ contents hold.
    let ino = c.args.ino.0 in
    let from = c.args.from in
    let to = c.args.to in
    let table = c.cut_run-2.new.table in
    let tree = c.cut_run-2.new.tree in
    let items = tree_items table tree in
    let first : Key = make_key ino extent_data (4096 * from) in
    let last : Key = make_key ino extent_data (4096 * to - 1) in
    let rest = files (in_front first items) ++ files (behind last items) in
    let same = ap (λ (l : List Item). length (items_between first last l)) (items_mid table c.let_go_between.new.table tree rest c.cut_run-2.ensures.edit.held c.let_go_between.ensures) in
    let two = c.cut_run-2.ensures.contents contents (c.cut_run.ensures.contents contents hold) in
    clear_contents table c.let_go_between.new.table c.delete_range.new.table tree c.delete_range.new.tree c.args.running ino from to (2 * length (items_between first last (tree_items c.let_go_between.new.table tree)) + 34) c.requires.order c.cut_run-2.ensures.edit.held c.let_go_between.ensures
    c.delete_range.ensures.tree c.delete_range.ensures.items c.delete_range.ensures.owner c.delete_range.ensures.edit c.delete_range.ensures.current c.delete_range.ensures.blocks c.delete_range.ensures.sealed
    contents (c.cut_run-2.ensures.others from c.cut_run.ensures.none) c.cut_run-2.ensures.none two
