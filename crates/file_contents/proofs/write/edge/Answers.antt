use Rattle.std.proofs.Common.{Bool, List, None, Some, ap, ◌∙◌, ℕ}
use Rattle.std.specs.Prelude.{if◌then◌else◌}
use Rattle.flat_model.specs.Contents.{block_written}
use Rattle.file_contents.proofs.write.edge.Goals as goal

pub returns : goal.returns
returns c = λ given file gives there.
    ap (λ (b : List ℕ). Some b) (c.block_over.ensures file.blocks (c.file_block-old.ensures given file gives there))
    ∙ ap (λ (t : Bool). if t then None else Some (block_written file.blocks c.args.offset c.args.text.now c.args.number)) c.if-is_covered.ensures
