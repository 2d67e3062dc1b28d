-- The rows of truncate, one by one, and what is done where none holds.
use Rattle.std.proofs.Common.{◌+◌, ◌*◌, [], ◌∷◌, ℕ, nat_lt, refl, sym, ap, subst, arith}
use Rattle.flat_model.specs.declared.answer.Answer.TheVariants.{Plain, TooLarge}
use Rattle.flat_model.specs.Contents.{most_file_bytes, truncated}
use Rattle.flat_model.specs.Needs.{blocks_past}
use Rattle.flat_model.specs.Operations.{file_there, truncate}
use Rattle.flat_model.specs.Records.{FileInode, FileRecord}
use Rattle.flat_model.specs.Walk.{record_at, walk}
use Rattle.flat_model.proofs.Steps.{truncate_sound}
use Rattle.table_volume.specs.Operated.{HasRoom, IsOperated}
use Rattle.file_ops.specs.Room.{most_for}
use Rattle.file_ops.proofs.Done.{operated}
use Rattle.file_ops.proofs.Writes.{file_same, there, truncate_is, truncate_large, truncate_refused, truncate_room}
use Rattle.file_ops.proofs.contents.truncate.Goals as goal

pub find_file-requires : goal.find_file-requires
find_file-requires c = c.requires.given.1.gives.tree_in

pub returns-in-Err : goal.returns-in-Err
returns-in-Err c = λ run gives.
    let no = c.in-Err.ensures run gives in
    truncate_refused c.args.table.now c.args.sub.now run c.args.path.now c.args.size c.in-Err.answer (most_for (blocks_past (file_there (record_at run.sub (walk run.sub c.args.path.now))) c.args.size)) gives
    (no.first ((nat_lt most_file_bytes c.args.size, TooLarge) ∷ []))

pub returns-then-size-gt-MOST_FILE_BYTES : goal.returns-then-size-gt-MOST_FILE_BYTES
returns-then-size-gt-MOST_FILE_BYTES c = λ run gives.
    let at = c.in-Ok.ensures run gives in
    truncate_refused c.args.table.now c.args.sub.now run c.args.path.now c.args.size TooLarge (most_for (blocks_past (file_there (record_at run.sub (walk run.sub c.args.path.now))) c.args.size)) gives
    (truncate_large run c.args.path.now c.in-Ok.ino.0 at c.args.size (omega (arith, c.if-size-gt-MOST_FILE_BYTES.true)))

pub cut_file-requires-clause-given : goal.cut_file-requires-clause-given
cut_file-requires-clause-given c =
    let g = c.requires.given in
    let at = c.in-Ok.ensures g.0 g.1 in (
      g.0,
      at.file,
      record { gives = g.1; there = there g.0 c.args.path.now c.in-Ok.ino.0 at },
      subst (λ (n : ℕ). HasRoom c.args.table.now n) (truncate_room g.0 c.args.path.now c.in-Ok.ino.0 at c.args.size (omega (arith, c.if-size-gt-MOST_FILE_BYTES.false))) g.2,
    )

pub returns-else-size-gt-MOST_FILE_BYTES : goal.returns-else-size-gt-MOST_FILE_BYTES
returns-else-size-gt-MOST_FILE_BYTES c = λ run gives.
    let table = c.args.table.now in
    let state = c.args.sub.now in
    let ino = c.in-Ok.ino.0 in
    let path = c.args.path.now in
    let size = c.args.size in
    let at = c.in-Ok.ensures run gives in
    let made = c.cut_file.ensures.made run at.file (record { gives = gives; there = there run path ino at }) in
    let inode = FileInode (truncated at.file size) in
    let done = truncate_is run path ino at size (omega (arith, c.if-size-gt-MOST_FILE_BYTES.false)) in
    subst (λ (n : ℕ). IsOperated table c.cut_file.new.table state c.cut_file.new.sub run (truncate run path size) Plain n) (ap (λ (file : FileRecord). 512 + 2 * blocks_past file size) (sym (file_same run path ino at)))
    (operated table c.cut_file.new.table state c.cut_file.new.sub run (truncate run path size) ino inode Plain (512 + 2 * blocks_past at.file size) gives made c.cut_file.ensures.state (truncate_sound run gives.sound path size) done refl)
