-- The rows of write, one by one.
use Rattle.std.proofs.Common.{◌≤◌, ◌+◌, [], ◌∷◌, length, nat_lt, refl, sym, ap, arith}
use Rattle.flat_model.specs.declared.answer.Answer.TheVariants.{TooLarge}
use Rattle.flat_model.specs.Contents.{most_file_bytes}
use Rattle.flat_model.specs.Operations.{write}
use Rattle.file_ops.specs.Refused.{refusal_of}
use Rattle.file_ops.proofs.Judged.{refused_by}
use Rattle.file_ops.proofs.Writes.{write_done, write_is, write_large, write_rows}
use Rattle.file_ops.proofs.judging.refused_write.Goals as goal

pub find_file-requires : goal.find_file-requires
find_file-requires c = c.requires.given.1.gives.tree_in

pub returns-in-Err : goal.returns-in-Err
unfolding write
returns-in-Err c = λ run gives.
    let no = c.in-Err.ensures run gives in
    refused_by run (write_rows run c.args.path.now c.args.offset c.args.text.now) (write_done run c.args.path.now c.args.offset c.args.text.now) c.in-Err.answer no.refuses
    (no.first ((nat_lt most_file_bytes (c.args.offset + length c.args.text.now), TooLarge) ∷ []))

pub returns-then-offset-count : goal.returns-then-offset-count
unfolding write
returns-then-offset-count c = λ run gives.
    let at = c.in-Ok.ensures run gives in
    refused_by run (write_rows run c.args.path.now c.args.offset c.args.text.now) (write_done run c.args.path.now c.args.offset c.args.text.now) TooLarge refl
    (write_large run c.args.path.now c.in-Ok.field-0.0 at c.args.offset c.args.text.now (omega (arith, c.if-offset-count.true, c.len-count.ensures.value, c.requires.short)))

pub returns-else-offset-count : goal.returns-else-offset-count
returns-else-offset-count c = λ run gives.
    let at = c.in-Ok.ensures run gives in
    let few : c.args.offset + length c.args.text.now ≤ most_file_bytes = omega (arith, c.if-offset-count.false, c.len-count.ensures.value, c.requires.short) in
    sym (ap refusal_of (write_is run c.args.path.now c.in-Ok.field-0.0 at c.args.offset c.args.text.now few))
