-- The blocks from the first one on that is wholly past the size.
use Rattle.std.proofs.Common.{◌≡◌, ◌+◌, ◌-◌, ◌/◌, ℕ, sym, ap, ◌∙◌, arith}
use Rattle.std.specs.FinMap.{get}
use Rattle.flat_model.specs.Records.{FileInode}
use Rattle.table_volume.specs.Gives.{data_in}
use Rattle.file_extents.specs.Extents.{held_between}
use Rattle.file_contents.proofs.Counting.{past_held, past_none}
use Rattle.file_contents.proofs.Given.{all_low, contents_held}
use Rattle.file_contents.proofs.count.blocks_past.Goals as goal

pub returns-then-size-ge-MOST_FILE_BYTES : goal.returns-then-size-ge-MOST_FILE_BYTES
returns-then-size-ge-MOST_FILE_BYTES c = λ given file gives there.
    sym (past_none 4096 file c.args.size (all_low file (gives.coherent.limits c.args.ino.0 (FileInode file) there).kind) (omega (arith, c.if-size-ge-MOST_FILE_BYTES.true)))

pub returns : goal.returns
returns c = λ given file gives there.
    let size = c.args.size in
    let count = c.held_blocks.ensures (data_in c.args.table.now) (get file.blocks) (contents_held c.args.table.now c.args.tree.now given c.args.ino.0 file gives.gives there) in
    let from : (size + 4096 - 1) / 4096 ≡ (size + 4095) / 4096 = omega arith in
    count ∙ ap (λ (f : ℕ). held_between (get file.blocks) f (4096 - f)) from
    ∙ sym (past_held 4096 file size (all_low file (gives.coherent.limits c.args.ino.0 (FileInode file) there).kind) (omega (arith, c.if-size-ge-MOST_FILE_BYTES.false)))
