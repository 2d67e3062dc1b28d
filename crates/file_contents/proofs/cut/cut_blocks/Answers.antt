-- All from the block on that the size ends in becomes holes, and that block is put again.
use Rattle.std.proofs.Common.{◌≡◌, ◌+◌, ◌-◌, ◌*◌, ◌/◌, ℕ, List, Option, None, Some, refl, sym, ◌∙◌, arith}
use Rattle.std.specs.FinMap.{get}
use Rattle.flat_model.specs.Contents.{truncated}
use Rattle.flat_model.specs.Needs.{blocks_past}
use Rattle.file_extents.specs.Extents.{cleared, held_between, with_block}
use Rattle.file_extents.proofs.Held.{content_edit_more, content_edits_join, nothing}
use Rattle.file_extents.proofs.Runs.{hold_same}
use Rattle.table_volume.specs.Gives.{data_in}
use Rattle.tree_range.specs.Shape.{tree_items}
use Rattle.file_contents.proofs.Counting.{held_cut}
use Rattle.file_contents.proofs.Files.{cleared_is, cut_kept, grown_is, put_is}
use Rattle.file_contents.proofs.Given.{held, holds, limits, low, offsets}
use Rattle.file_contents.proofs.Puts.{cleared_hole}
use Rattle.file_contents.proofs.Writing.{may_clear}
use Rattle.file_contents.proofs.cut.cut_blocks.Goals as goal

none_left : (o : Option (List ℕ)) → ((block : List ℕ) → o ≡ Some block → ⊥) → o ≡ None
none_left None none = refl
none_left (Some block) none = absurd (none block refl)

pub returns-then-size-was-clause-edit : goal.returns-then-size-was-clause-edit
returns-then-size-was-clause-edit c = λ run file is same.
    nothing c.args.table.now c.args.sub.now.tree c.args.sub.now.running c.args.ino.0 (2 * blocks_past file c.args.size + 122) (held c.args.table.now c.args.sub.now run c.args.ino.0 file is)

pub returns-then-size-was-clause-contents : goal.returns-then-size-was-clause-contents
returns-then-size-was-clause-contents c = λ run file is same.
    hold_same (tree_items c.args.table.now c.args.sub.now.tree) (data_in c.args.table.now) c.args.ino.0 (get file.blocks) (get (truncated file c.args.size).blocks)
    (grown_is file c.args.size (limits c.args.table.now c.args.sub.now run c.args.ino.0 file is) (omega (arith, same, c.if-size-was.true))) (holds c.args.table.now c.args.sub.now run c.args.ino.0 file is)

pub kept_block-kept-requires-clause-small : goal.kept_block-kept-requires-clause-small
kept_block-kept-requires-clause-small c =
    let g = c.requires.given in
    let most = (limits c.args.table.now c.args.sub.now g.0 c.args.ino.0 g.1 g.2).size in
    omega (arith, most, g.3, c.if-size-was.false)

pub clear_blocks-requires-clause-held : goal.clear_blocks-requires-clause-held
clear_blocks-requires-clause-held c = let g = c.requires.given in held c.args.table.now c.args.sub.now g.0 c.args.ino.0 g.1 g.2

pub clear_blocks-requires-clause-offsets : goal.clear_blocks-requires-clause-offsets
clear_blocks-requires-clause-offsets c = let g = c.requires.given in offsets c.args.table.now c.args.sub.now g.0 c.args.ino.0 g.1 g.2

pub clear_blocks-requires-clause-order : goal.clear_blocks-requires-clause-order
clear_blocks-requires-clause-order c =
    let g = c.requires.given in
    let most = (limits c.args.table.now c.args.sub.now g.0 c.args.ino.0 g.1 g.2).size in
    omega (arith, most, g.3, c.if-size-was.false)

pub clear_blocks-requires-clause-holds : goal.clear_blocks-requires-clause-holds
clear_blocks-requires-clause-holds c =
    let g = c.requires.given in
    let most = (limits c.args.table.now c.args.sub.now g.0 c.args.ino.0 g.1 g.2).size in
    let few = held_cut 4096 g.1 c.args.size (low c.args.table.now c.args.sub.now g.0 c.args.ino.0 g.1 g.2) (omega (arith, most, g.3, c.if-size-was.false)) in
    (get g.1.blocks, may_clear c.args.table.now c.args.sub.now g.0 c.args.ino.0 g.1 g.2 (c.args.size / 4096) 4096 (2 * blocks_past g.1 c.args.size + 122) g.4 (omega (arith, few)))

pub run_in_front-front-requires-clause-tree : goal.run_in_front-front-requires-clause-tree
run_in_front-front-requires-clause-tree c =
    let g = c.requires.given in
    (c.clear_blocks.ensures.edit (get g.1.blocks) (holds c.args.table.now c.args.sub.now g.0 c.args.ino.0 g.1 g.2)).held.stands

pub put_block-requires-clause-held : goal.put_block-requires-clause-held
put_block-requires-clause-held c =
    let g = c.requires.given in
    (c.clear_blocks.ensures.edit (get g.1.blocks) (holds c.args.table.now c.args.sub.now g.0 c.args.ino.0 g.1 g.2)).held

pub put_block-requires-clause-hole : goal.put_block-requires-clause-hole
put_block-requires-clause-hole c =
    let g = c.requires.given in
    let most = (limits c.args.table.now c.args.sub.now g.0 c.args.ino.0 g.1 g.2).size in (
      cleared (get g.1.blocks) (c.args.size / 4096) 4096,
      c.clear_blocks.ensures.contents (get g.1.blocks) (holds c.args.table.now c.args.sub.now g.0 c.args.ino.0 g.1 g.2),
      cleared_hole (get g.1.blocks) (c.args.size / 4096) 4096 (c.args.size / 4096) (omega arith) (omega (arith, most, g.3, c.if-size-was.false)),
    )

pub put_block-requires-clause-front : goal.put_block-requires-clause-front
put_block-requires-clause-front c =
    let g = c.requires.given in
    let most = (limits c.args.table.now c.args.sub.now g.0 c.args.ino.0 g.1 g.2).size in
    let hold = c.clear_blocks.ensures.contents (get g.1.blocks) (holds c.args.table.now c.args.sub.now g.0 c.args.ino.0 g.1 g.2) in
    (c.run_in_front-front.ensures (data_in c.clear_blocks.new.table) (cleared (get g.1.blocks) (c.args.size / 4096) 4096) hold
    (cleared_hole (get g.1.blocks) (c.args.size / 4096) 4096 (c.args.size / 4096) (omega arith) (omega (arith, most, g.3, c.if-size-was.false)))).stands

pub put_block-requires-clause-spare : goal.put_block-requires-clause-spare
put_block-requires-clause-spare c =
    let g = c.requires.given in
    let most = (limits c.args.table.now c.args.sub.now g.0 c.args.ino.0 g.1 g.2).size in
    let few = held_cut 4096 g.1 c.args.size (low c.args.table.now c.args.sub.now g.0 c.args.ino.0 g.1 g.2) (omega (arith, most, g.3, c.if-size-was.false)) in
    let taken = (c.clear_blocks.ensures.edit (get g.1.blocks) (holds c.args.table.now c.args.sub.now g.0 c.args.ino.0 g.1 g.2)).taken.spare in
    let room = g.4.spare in
    omega (arith, few, taken, room)

pub put_block-requires-clause-free : goal.put_block-requires-clause-free
put_block-requires-clause-free c =
    let g = c.requires.given in
    let most = (limits c.args.table.now c.args.sub.now g.0 c.args.ino.0 g.1 g.2).size in
    let few = held_cut 4096 g.1 c.args.size (low c.args.table.now c.args.sub.now g.0 c.args.ino.0 g.1 g.2) (omega (arith, most, g.3, c.if-size-was.false)) in
    let taken = (c.clear_blocks.ensures.edit (get g.1.blocks) (holds c.args.table.now c.args.sub.now g.0 c.args.ino.0 g.1 g.2)).taken.free in
    let room = g.4.free in
    omega (arith, few, taken, room)

pub returns-in-Some-clause-edit : goal.returns-in-Some-clause-edit
returns-in-Some-clause-edit c = λ run file is same.
    let table = c.args.table.now in
    let tree = c.args.sub.now.tree in
    let most = (limits table c.args.sub.now run c.args.ino.0 file is).size in
    let few = held_cut 4096 file c.args.size (low table c.args.sub.now run c.args.ino.0 file is) (omega (arith, most, same, c.if-size-was.false)) in
    let there = held_between (get file.blocks) (c.args.size / 4096) (4096 - c.args.size / 4096) in
    let one = c.clear_blocks.ensures.edit (get file.blocks) (holds table c.args.sub.now run c.args.ino.0 file is) in
    content_edit_more table c.put_block.new.table tree c.put_block.new.tree c.args.sub.now.running c.args.ino.0 (2 * there + 102 + 18) (2 * blocks_past file c.args.size + 122)
    (content_edits_join table c.clear_blocks.new.table c.put_block.new.table tree c.clear_blocks.new.tree c.put_block.new.tree c.args.sub.now.running c.args.ino.0 (2 * there + 102) 18 one c.put_block.ensures.edit) (omega (arith, few))

pub returns-in-Some-clause-contents : goal.returns-in-Some-clause-contents
returns-in-Some-clause-contents c = λ run file is same.
    let table = c.args.table.now in
    let size = c.args.size in
    let most = (limits table c.args.sub.now run c.args.ino.0 file is).size in
    let hold = c.clear_blocks.ensures.contents (get file.blocks) (holds table c.args.sub.now run c.args.ino.0 file is) in
    let hole = cleared_hole (get file.blocks) (size / 4096) 4096 (size / 4096) (omega arith) (omega (arith, most, same, c.if-size-was.false)) in
    let block : get (truncated file size).blocks (size / 4096) ≡ Some c.in-Some.block = cut_kept file size ∙ sym (c.kept_block-kept.ensures run.sub file is.gives.gives is.there) ∙ c.in-Some.is in
    hold_same (tree_items c.put_block.new.table c.put_block.new.tree) (data_in c.put_block.new.table) c.args.ino.0 (with_block (cleared (get file.blocks) (size / 4096) 4096) (size / 4096) c.in-Some.block) (get (truncated file size).blocks)
    (put_is file size (low table c.args.sub.now run c.args.ino.0 file is) c.in-Some.block block) (c.put_block.ensures.contents (cleared (get file.blocks) (size / 4096) 4096) hold hole)

pub returns-in_default-clause-edit : goal.returns-in_default-clause-edit
returns-in_default-clause-edit c = λ run file is same.
    let table = c.args.table.now in
    let tree = c.args.sub.now.tree in
    let most = (limits table c.args.sub.now run c.args.ino.0 file is).size in
    let few = held_cut 4096 file c.args.size (low table c.args.sub.now run c.args.ino.0 file is) (omega (arith, most, same, c.if-size-was.false)) in
    let there = held_between (get file.blocks) (c.args.size / 4096) (4096 - c.args.size / 4096) in
    content_edit_more table c.clear_blocks.new.table tree c.clear_blocks.new.tree c.args.sub.now.running c.args.ino.0 (2 * there + 102) (2 * blocks_past file c.args.size + 122)
    (c.clear_blocks.ensures.edit (get file.blocks) (holds table c.args.sub.now run c.args.ino.0 file is)) (omega (arith, few))

pub returns-in_default-clause-contents : goal.returns-in_default-clause-contents
returns-in_default-clause-contents c = λ run file is same.
    let table = c.args.table.now in
    let size = c.args.size in
    let most = (limits table c.args.sub.now run c.args.ino.0 file is).size in
    let hold = c.clear_blocks.ensures.contents (get file.blocks) (holds table c.args.sub.now run c.args.ino.0 file is) in
    let none : get (truncated file size).blocks (size / 4096) ≡ None = cut_kept file size ∙ sym (c.kept_block-kept.ensures run.sub file is.gives.gives is.there) ∙ none_left c.kept_block-kept.result c.in_default.not-Some in
    hold_same (tree_items c.clear_blocks.new.table c.clear_blocks.new.tree) (data_in c.clear_blocks.new.table) c.args.ino.0 (cleared (get file.blocks) (size / 4096) 4096) (get (truncated file size).blocks)
    (cleared_is file size (low table c.args.sub.now run c.args.ino.0 file is) (omega (arith, most, same, c.if-size-was.false)) none) hold
