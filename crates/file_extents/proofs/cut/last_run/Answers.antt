use Rattle.std.proofs.Common.{◌≡◌, ◌*◌, ◌/◌, Ok, sym, ap, ◌∙◌, arith}
use Rattle.blk_base.specs.Extents.{Regular}
use Rattle.item_extent.specs.declared.extent.Extent.{Extent}
use Rattle.file_blocks.proofs.Covered.{no_fault, no_hole, no_inline, same_at, same_len, shown}
use Rattle.tree_range.specs.Shape.{tree_items}
use Rattle.file_extents.specs.Extents.{HasRun}
use Rattle.file_extents.proofs.Last.{last_item, moved, none_begins}
use Rattle.file_extents.proofs.cut.last_run.Goals as goal

pub returns-in-Ok-Regular : goal.returns-in-Ok-Regular
returns-in-Ok-Regular c = λ blocks contents hold.
    let items = tree_items c.args.table.now c.args.tree.now in
    let is = last_item items blocks c.args.ino.0 contents c.requires.tree.order hold c.args.number c.in-Some.key c.in-Some.bytes.now c.in-Some.ensures in
    let told : Ok (Regular c.in-Ok-Regular.at.0 c.in-Ok-Regular.field-0-1 c.in-Ok-Regular.length) ≡ Ok (Regular is.at 0 (4096 * is.count)) = ap (λ (e : Extent). shown e) (sym c.in-Ok-Regular.field-0-is) ∙ c.in-Ok-Regular.ensures ∙ is.read in
    let length : c.in-Ok-Regular.length ≡ 4096 * is.count = same_len _ _ _ _ _ told in
    let at : is.at ≡ c.in-Ok-Regular.at.0 = sym (same_at _ _ _ _ _ told) in
    let count : is.count ≡ c.in-Ok-Regular.length / 4096 = omega (arith, length) in
    let begin : is.begin ≡ c.in-Some.key.offset / 4096 = omega (arith, is.offset) in
    moved (HasRun items c.args.ino.0) c.args.number is.begin (c.in-Some.key.offset / 4096) is.at c.in-Ok-Regular.at.0 is.count (c.in-Ok-Regular.length / 4096) begin at count is.last

pub returns-in-Ok-Inline : goal.returns-in-Ok-Inline
returns-in-Ok-Inline c = λ blocks contents hold.
    let is = last_item (tree_items c.args.table.now c.args.tree.now) blocks c.args.ino.0 contents c.requires.tree.order hold c.args.number c.in-Some.key c.in-Some.bytes.now c.in-Some.ensures in
    absurd (no_inline _ is.at (4096 * is.count) (ap (λ (e : Extent). shown e) (sym c.in-Ok-Inline.field-0-is) ∙ c.in-Ok-Inline.ensures ∙ is.read))

pub returns-in-Ok-Hole : goal.returns-in-Ok-Hole
returns-in-Ok-Hole c = λ blocks contents hold.
    let is = last_item (tree_items c.args.table.now c.args.tree.now) blocks c.args.ino.0 contents c.requires.tree.order hold c.args.number c.in-Some.key c.in-Some.bytes.now c.in-Some.ensures in
    absurd (no_hole _ is.at (4096 * is.count) (ap (λ (e : Extent). shown e) (sym c.in-Ok-Hole.field-0-is) ∙ c.in-Ok-Hole.ensures ∙ is.read))

pub returns-in-Err : goal.returns-in-Err
returns-in-Err c = λ blocks contents hold.
    let is = last_item (tree_items c.args.table.now c.args.tree.now) blocks c.args.ino.0 contents c.requires.tree.order hold c.args.number c.in-Some.key c.in-Some.bytes.now c.in-Some.ensures in
    absurd (no_fault _ is.at (4096 * is.count) (c.in-Err.ensures ∙ is.read))

pub returns-in-None : goal.returns-in-None
returns-in-None c = λ blocks contents hold.
    none_begins (tree_items c.args.table.now c.args.tree.now) blocks c.args.ino.0 contents c.requires.tree.order hold c.args.number c.in-None.ensures
