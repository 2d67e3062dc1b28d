use Rattle.std.proofs.Common.{arith, drop, ap, ◌∙◌, length-drop}
use Rattle.std.proofs.lemmas.List.{take_all}
use Rattle.blk_base.specs.Bytes.{with_bytes, number_bytes}
use Rattle.blk_base.specs.Crc.{block_sum, crc32c_of}
use Rattle.blk_base.specs.Leaf.{sealed}
use Rattle.blk_base.specs.Superblock.{with_sum}
use Rattle.leaf_edit.proofs.Headers.{fields_hold, has_seal}
use Rattle.leaf_edit.proofs.seal.seal_block.Goals as goal

pub returns-clause-written : goal.returns-clause-written
unfolding sealed block_sum
returns-clause-written c =
    let made = c.write_fields.new.block in
    let long = c.write_fields.array_long in
    let sum = c.crc32c-sum.ensures ∙ ap crc32c_of (take_all 4064 (drop 32 made) (omega (arith, length-drop 32 made))) in
    c.put_u32.ensures ∙ ap (λ n. with_bytes made 0 (number_bytes 4 n)) sum ∙ ap with_sum c.write_fields.ensures.written

pub returns-clause-header : goal.returns-clause-header
unfolding block_sum
returns-clause-header c =
    let made = c.write_fields.new.block in
    let long = c.write_fields.array_long in
    let sum = c.crc32c-sum.ensures ∙ ap crc32c_of (take_all 4064 (drop 32 made) (omega (arith, length-drop 32 made))) in
    let w = c.write_fields.ensures in
    let fields = fields_hold c.args.block.now made c.args.want.now c.told-block w.fits_fsid w.fits_address w.fits_generation w.fits_owner w.fits_level w.written in
    (has_seal c.args.block.now made c.put_u32.new.bytes c.args.want.now c.crc32c-sum.result long fields (omega arith) sum c.put_u32.ensures).header

pub returns-clause-count : goal.returns-clause-count
unfolding block_sum
returns-clause-count c =
    let made = c.write_fields.new.block in
    let long = c.write_fields.array_long in
    let sum = c.crc32c-sum.ensures ∙ ap crc32c_of (take_all 4064 (drop 32 made) (omega (arith, length-drop 32 made))) in
    let w = c.write_fields.ensures in
    let fields = fields_hold c.args.block.now made c.args.want.now c.told-block w.fits_fsid w.fits_address w.fits_generation w.fits_owner w.fits_level w.written in
    (has_seal c.args.block.now made c.put_u32.new.bytes c.args.want.now c.crc32c-sum.result long fields (omega arith) sum c.put_u32.ensures).count

pub returns-clause-body : goal.returns-clause-body
unfolding block_sum
returns-clause-body c =
    let made = c.write_fields.new.block in
    let long = c.write_fields.array_long in
    let sum = c.crc32c-sum.ensures ∙ ap crc32c_of (take_all 4064 (drop 32 made) (omega (arith, length-drop 32 made))) in
    let w = c.write_fields.ensures in
    let fields = fields_hold c.args.block.now made c.args.want.now c.told-block w.fits_fsid w.fits_address w.fits_generation w.fits_owner w.fits_level w.written in
    (has_seal c.args.block.now made c.put_u32.new.bytes c.args.want.now c.crc32c-sum.result long fields (omega arith) sum c.put_u32.ensures).body
