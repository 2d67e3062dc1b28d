use Rattle.std.proofs.Common.{drop, ap, ◌∙◌, arith}
use Rattle.std.proofs.lemmas.List.{take_all, length-drop}
use Rattle.blk_base.specs.Crc.{block_sum, crc32c_of}
use Rattle.volume_format.proofs.superblock.sum_of.Goals as goal

pub returns : goal.returns
unfolding block_sum
returns c = c.crc32c.ensures ∙ ap crc32c_of (take_all 4064 (drop 32 c.args.block.now) (simp length-drop (omega arith)))
