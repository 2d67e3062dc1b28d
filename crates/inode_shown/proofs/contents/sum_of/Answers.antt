use Rattle.std.proofs.Common.{◌≡◌, ◌+◌, ◌*◌, ◌/◌, ◌%◌, ℕ, map, refl, sym, ap, ◌∙◌, arith}
use Rattle.std.specs.Prelude.{bit_xor}
use Rattle.std.specs.FinMap.{get}
use Rattle.std.specs.List.{range_with_len}
use Rattle.blk_base.specs.Crc.{crc32c_of, register_after}
use Rattle.file_blocks.specs.Runs.{block_view}
use Rattle.flat_model.specs.Contents.{byte_at}
use Rattle.inode_shown.proofs.Bytes.{register_more, whole_read}
use Rattle.inode_shown.proofs.contents.sum_of.Goals as goal

pub loop-number-init : goal.loop-number-init
unfolding register_after
loop-number-init c = λ given file gives there. refl

pub loop-number-preserved : goal.loop-number-preserved
loop-number-preserved c = λ given file gives there.
    let number = c.loop-number.number in
    let long : 4096 * number + 4096 ≡ 4096 * (number + 1) = omega arith in
    c.add_block-register.ensures
    ∙ register_more file.blocks 0xFFFF_FFFF c.loop-number.register number 4096 (block_view c.file_block.result) (c.file_block.ensures given file gives there) (omega arith) (c.loop-number.invariant given file gives there)
    ∙ ap (λ (n : ℕ). register_after 0xFFFF_FFFF (map (byte_at file.blocks) (range_with_len 0 n))) long

pub returns : goal.returns
unfolding crc32c_of
returns c = λ given file gives there is.
    let number = c.loop-number.number in
    let size = c.args.size in
    let all : number ≡ size / 4096 = omega arith in
    let long : 4096 * number + size % 4096 ≡ size = omega (arith, all) in
    ap (λ (n : ℕ). bit_xor n 0xFFFF_FFFF)
    (c.add_block.ensures
    ∙ register_more file.blocks 0xFFFF_FFFF c.loop-number.register number (size % 4096) (block_view c.file_block-2.result) (c.file_block-2.ensures given file gives there ∙ ap (get file.blocks) (sym all)) (omega arith) (c.loop-number.invariant given file gives there)
    ∙ ap (register_after 0xFFFF_FFFF) (ap (λ (n : ℕ). map (byte_at file.blocks) (range_with_len 0 n)) long ∙ whole_read file size is))
