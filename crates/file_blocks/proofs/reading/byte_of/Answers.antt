-- A hole reads as zeros.
use Rattle.std.proofs.Common.{ℕ, replicate, slice_index, unwrap_or, List, Option, sym, ap, ◌∙◌}
use Rattle.std.specs.Borrow.{Bor}
use Rattle.file_blocks.specs.Runs.{block_view}
use Rattle.file_blocks.proofs.Parts.{zero_byte}
use Rattle.file_blocks.proofs.reading.byte_of.Goals as goal

pub returns-in-None : goal.returns-in-None
returns-in-None c =
    sym (zero_byte 4096 c.args.place) ∙ ap (λ (o : Option (Bor (List ℕ))). slice_index (unwrap_or (block_view o) (replicate 4096 0)) c.args.place) (sym c.in-None.is)
