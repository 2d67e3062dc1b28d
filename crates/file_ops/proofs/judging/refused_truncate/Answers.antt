-- The rows of truncate, one by one.
use Rattle.std.proofs.Common.{[], ◌∷◌, nat_lt, refl, sym, ap, arith}
use Rattle.flat_model.specs.declared.answer.Answer.TheVariants.{TooLarge}
use Rattle.flat_model.specs.Contents.{most_file_bytes}
use Rattle.flat_model.specs.Operations.{truncate}
use Rattle.file_ops.specs.Refused.{refusal_of}
use Rattle.file_ops.proofs.Judged.{refused_by}
use Rattle.file_ops.proofs.Writes.{truncate_done, truncate_is, truncate_large, truncate_rows}
use Rattle.file_ops.proofs.judging.refused_truncate.Goals as goal

pub find_file-requires : goal.find_file-requires
find_file-requires c = c.requires.given.1.gives.tree_in

pub returns-in-Err : goal.returns-in-Err
unfolding truncate
returns-in-Err c = λ run gives.
    let no = c.in-Err.ensures run gives in
    refused_by run (truncate_rows run c.args.path.now c.args.size) (truncate_done run c.args.path.now c.args.size) c.in-Err.answer no.refuses (no.first ((nat_lt most_file_bytes c.args.size, TooLarge) ∷ []))

pub returns-then-size-gt-MOST_FILE_BYTES : goal.returns-then-size-gt-MOST_FILE_BYTES
unfolding truncate
returns-then-size-gt-MOST_FILE_BYTES c = λ run gives.
    let at = c.in-Ok.ensures run gives in
    refused_by run (truncate_rows run c.args.path.now c.args.size) (truncate_done run c.args.path.now c.args.size) TooLarge refl
    (truncate_large run c.args.path.now c.in-Ok.field-0.0 at c.args.size (omega (arith, c.if-size-gt-MOST_FILE_BYTES.true)))

pub returns-else-size-gt-MOST_FILE_BYTES : goal.returns-else-size-gt-MOST_FILE_BYTES
returns-else-size-gt-MOST_FILE_BYTES c = λ run gives.
    let at = c.in-Ok.ensures run gives in
    sym (ap refusal_of (truncate_is run c.args.path.now c.in-Ok.field-0.0 at c.args.size (omega (arith, c.if-size-gt-MOST_FILE_BYTES.false))))
