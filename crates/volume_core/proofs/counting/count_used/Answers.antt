use Rattle.std.proofs.Common.{◌≡◌, ◌+◌, ap, length, arith}
use Rattle.block_table.specs.Table.{free_blocks}
use Rattle.volume_core.specs.InUse.{in_use, usable}
use Rattle.volume_core.proofs.Usable.{used_and_free}
use Rattle.volume_core.proofs.counting.count_used.Goals as goal

usable_is : (c : goal.After-free_count) → free_blocks c.args.table.now + length (in_use c.args.table.now) ≡ c.usable.result
usable_is c =
    let all = used_and_free c.args.table.now in
    let same = c.usable.ensures in
    let blocks = ap usable c.blocks-2.ensures in
    omega (arith, all, same, blocks)

pub overflow_sub-result : goal.overflow_sub-result
overflow_sub-result c = let all = usable_is c in let free = c.free_count.ensures in omega (arith, all, free)

pub returns : goal.returns
returns c = let all = usable_is c in let free = c.free_count.ensures in omega (arith, all, free)
