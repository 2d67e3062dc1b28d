use Rattle.std.proofs.Common.{ℕ, List, Option, map, replicate, slice_index, unwrap_or, sym, ap, ◌∙◌}
use Rattle.std.specs.Borrow.{Bor}
use Rattle.std.specs.List.{range_with_len}
use Rattle.blk_base.specs.Crc.{register_after}
use Rattle.file_blocks.specs.Runs.{block_view}
use Rattle.inode_shown.proofs.contents.add_block.Goals as goal

pub returns-in-Some : goal.returns-in-Some
returns-in-Some c =
    c.add_front.ensures ∙ ap (λ (o : Option (Bor (List ℕ))). register_after c.args.register (map (slice_index (unwrap_or (block_view o) (replicate 4096 0))) (range_with_len 0 c.args.length))) (sym c.in-Some.is)

pub returns-in-None : goal.returns-in-None
returns-in-None c =
    c.add_front-in-None.ensures ∙ ap (λ (o : Option (Bor (List ℕ))). register_after c.args.register (map (slice_index (unwrap_or (block_view o) (replicate 4096 0))) (range_with_len 0 c.args.length))) (sym c.in-None.is)
