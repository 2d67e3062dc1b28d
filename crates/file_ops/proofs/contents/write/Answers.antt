-- The rows of write, one by one, and what is done where none holds.
use Rattle.std.proofs.Common.{◌≡◌, ◌≤◌, ◌+◌, [], ◌∷◌, ℕ, length, nat_lt, refl, sym, ap, subst, ◌∙◌, arith}
use Rattle.std.proofs.lemmas.Bool.{true≢false}
use Rattle.flat_model.specs.declared.answer.Answer.TheVariants.{Number, TooLarge}
use Rattle.flat_model.specs.Contents.{most_file_bytes, written}
use Rattle.flat_model.specs.Operations.{write}
use Rattle.flat_model.specs.Records.{FileInode}
use Rattle.flat_model.proofs.Maps.{some_same}
use Rattle.flat_model.proofs.Steps.{write_sound}
use Rattle.table_volume.proofs.SubEdits.{sub_more}
use Rattle.tree_range.specs.Shape.{tree_items}
use Rattle.file_contents.specs.Joined.{AreJoined}
use Rattle.file_contents.specs.Written.{end_block, first_block}
use Rattle.file_extents.specs.Extents.{HasRun}
use Rattle.file_ops.proofs.Done.{operated, written_outcome}
use Rattle.file_ops.proofs.Writes.{there, write_is, write_large, write_refused}
use Rattle.file_ops.proofs.contents.write.Goals as goal

pub find_file-requires : goal.find_file-requires
find_file-requires c = c.requires.given.1.gives.tree_in

pub write_file-requires-clause-given : goal.write_file-requires-clause-given
write_file-requires-clause-given c =
    let g = c.requires.given in
    let at = c.in-Ok.ensures g.0 g.1 in
    (g.0, at.file, record { gives = g.1; there = there g.0 c.args.path.now c.in-Ok.ino.0 at })

pub returns-in-Err-clause-operated : goal.returns-in-Err-clause-operated
returns-in-Err-clause-operated c = λ run gives.
    let no = c.in-Err.ensures run gives in
    write_refused c.args.table.now c.args.sub.now run c.args.path.now c.args.offset c.args.text.now c.in-Err.answer 512 gives
    (no.first ((nat_lt most_file_bytes (c.args.offset + length c.args.text.now), TooLarge) ∷ []))

pub returns-in-Err-clause-joined : goal.returns-in-Err-clause-joined
returns-in-Err-clause-joined c = λ run ino gives at_ino done. absurd (true≢false (sym (c.in-Err.ensures run gives).refuses ∙ done))

pub returns-then-offset-count-clause-operated : goal.returns-then-offset-count-clause-operated
returns-then-offset-count-clause-operated c = λ run gives.
    let at = c.in-Ok.ensures run gives in
    write_refused c.args.table.now c.args.sub.now run c.args.path.now c.args.offset c.args.text.now TooLarge 512 gives
    (write_large run c.args.path.now c.in-Ok.ino.0 at c.args.offset c.args.text.now (omega (arith, c.if-offset-count.true, c.len-count.ensures.value, c.requires.short)))

pub returns-else-offset-count-clause-operated : goal.returns-else-offset-count-clause-operated
returns-else-offset-count-clause-operated c = λ run gives.
    let table = c.args.table.now in
    let state = c.args.sub.now in
    let ino = c.in-Ok.ino.0 in
    let path = c.args.path.now in
    let text = c.args.text.now in
    let at = c.in-Ok.ensures run gives in
    let few : c.args.offset + length text ≤ most_file_bytes = omega (arith, c.if-offset-count.false, c.len-count.ensures.value, c.requires.short) in
    let made = c.write_file.ensures.made run at.file (record { gives = gives; there = there run path ino at }) in
    let inode = FileInode (written at.file c.args.offset text) in
    let done = write_is run path ino at c.args.offset text few ∙ ap (λ (n : ℕ). written_outcome run ino inode (Number n)) (sym c.len-count.ensures.value) in
    operated table c.write_file.new.table state c.write_file.new.sub run (write run path c.args.offset text) ino inode (Number c.len-count.result) 512 gives
    (record { gives = made.gives; edit = sub_more table c.write_file.new.table state c.write_file.new.sub 459 512 made.edit (omega arith) }) c.write_file.ensures.state
    (write_sound run gives.sound path c.args.offset text c.len-count.ensures.bytes) done refl

pub returns-else-offset-count-clause-joined : goal.returns-else-offset-count-clause-joined
returns-else-offset-count-clause-joined c = λ run ino gives at_ino done.
    let at = c.in-Ok.ensures run gives in
    let same : ino ≡ c.in-Ok.ino.0 = some_same ino c.in-Ok.ino.0 (sym at_ino ∙ at.at.ino_is) in
    subst (λ (i : ℕ). AreJoined (HasRun (tree_items c.write_file.new.table c.write_file.new.sub.tree) i) (first_block c.args.offset) (end_block c.args.offset (length c.args.text.now))) (sym same) c.write_file.ensures.joined
