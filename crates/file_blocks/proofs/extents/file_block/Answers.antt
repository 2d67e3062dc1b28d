-- The last extent in front of the block holds it, or none does.
use Rattle.std.proofs.Common.{◌≡◌, ◌<◌, ◌+◌, ◌-◌, ◌*◌, ◌%◌, ◌^◌, Ok, sym, ap, ◌∙◌, arith}
use Rattle.blk_base.specs.Extents.{Regular}
use Rattle.table_volume.specs.Gives.{data_in}
use Rattle.item_extent.specs.declared.extent.Extent.{Extent}
use Rattle.file_blocks.proofs.Covered.{behind_covers, no_fault, no_hole, no_inline, none_covers, run_of, same_at, same_len, shown, taken_below, within_covers}
use Rattle.file_blocks.proofs.extents.file_block.Goals as goal

pub returns-in-None : goal.returns-in-None
returns-in-None c = λ given file gives there. none_covers c.args.table.now c.args.tree.now given c.args.ino.0 file gives there c.args.number c.in-None.ensures

pub returns-then-behind-length : goal.returns-then-behind-length
returns-then-behind-length c = λ given file gives there.
    let last = c.in-Some.ensures in
    let run = run_of c.args.table.now c.args.tree.now given c.args.ino.0 file gives there c.in-Some.key c.in-Some.bytes.now last.there last.objectid last.kind in
    let told : Ok (Regular c.in-Ok-Regular.at.0 c.in-Ok-Regular.field-0-1 c.in-Ok-Regular.length) ≡ Ok (Regular run.at 0 run.len) =
    ap (λ (e : Extent). shown e) (sym c.in-Ok-Regular.field-0-is) ∙ c.in-Ok-Regular.ensures ∙ run.read in
    let length : c.in-Ok-Regular.length ≡ run.len = same_len _ _ _ _ _ told in
    behind_covers c.args.table.now c.args.tree.now given c.args.ino.0 file gives there c.args.number c.in-Some.key c.in-Some.bytes.now last run (omega (arith, length, c.if-behind-length.true))

pub returns-else-behind-length : goal.returns-else-behind-length
returns-else-behind-length c = λ given file gives there.
    let last = c.in-Some.ensures in
    let run = run_of c.args.table.now c.args.tree.now given c.args.ino.0 file gives there c.in-Some.key c.in-Some.bytes.now last.there last.objectid last.kind in
    let told : Ok (Regular c.in-Ok-Regular.at.0 c.in-Ok-Regular.field-0-1 c.in-Ok-Regular.length) ≡ Ok (Regular run.at 0 run.len) =
    ap (λ (e : Extent). shown e) (sym c.in-Ok-Regular.field-0-is) ∙ c.in-Ok-Regular.ensures ∙ run.read in
    let length : c.in-Ok-Regular.length ≡ run.len = same_len _ _ _ _ _ told in
    let at : c.in-Ok-Regular.at.0 ≡ run.at = same_at _ _ _ _ _ told in
    let within = within_covers c.args.table.now c.args.tree.now given c.args.ino.0 file gives there c.args.number c.in-Some.key c.in-Some.bytes.now last run (omega (arith, length, c.if-behind-length.false)) in
    let place = run.at + (4096 * c.args.number - c.in-Some.key.offset) in
    let low : place < 2 ^ 64 = taken_below c.args.table.now place (omega (arith, c.blocks-blocks.ensures, c.blocks-blocks.type_inv)) within.1 in
    let same : (c.in-Ok-Regular.at.0 + (4096 * c.args.number - c.in-Some.key.offset)) % 2 ^ 64 ≡ place = omega (arith, at, low) in
    c.block_at.ensures ∙ ap (data_in c.args.table.now) same ∙ within.0

pub returns-in-Ok-Inline : goal.returns-in-Ok-Inline
returns-in-Ok-Inline c = λ given file gives there.
    let last = c.in-Some.ensures in
    let run = run_of c.args.table.now c.args.tree.now given c.args.ino.0 file gives there c.in-Some.key c.in-Some.bytes.now last.there last.objectid last.kind in
    absurd (no_inline _ run.at run.len (ap (λ (e : Extent). shown e) (sym c.in-Ok-Inline.field-0-is) ∙ c.in-Ok-Inline.ensures ∙ run.read))

pub returns-in-Ok-Hole : goal.returns-in-Ok-Hole
returns-in-Ok-Hole c = λ given file gives there.
    let last = c.in-Some.ensures in
    let run = run_of c.args.table.now c.args.tree.now given c.args.ino.0 file gives there c.in-Some.key c.in-Some.bytes.now last.there last.objectid last.kind in
    absurd (no_hole _ run.at run.len (ap (λ (e : Extent). shown e) (sym c.in-Ok-Hole.field-0-is) ∙ c.in-Ok-Hole.ensures ∙ run.read))

pub returns-in-Err : goal.returns-in-Err
returns-in-Err c = λ given file gives there.
    let last = c.in-Some.ensures in
    let run = run_of c.args.table.now c.args.tree.now given c.args.ino.0 file gives there c.in-Some.key c.in-Some.bytes.now last.there last.objectid last.kind in
    absurd (no_fault _ run.at run.len (c.in-Err.ensures ∙ run.read))
