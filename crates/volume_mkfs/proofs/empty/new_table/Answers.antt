use Rattle.std.proofs.Common.{◌≡◌, ◌≤◌, ◌+◌, ◌∙◌, ℕ, max, ap, arith, sym, subst}
use Rattle.block_table.specs.Table.{Table, empty_table, free_blocks, with_spare}
use Rattle.table_volume.specs.Operated.{HasRoom}
use Rattle.volume_mkfs.proofs.Room.{most_are_free}
use Rattle.volume_mkfs.proofs.empty.new_table.Goals as goal

pub returns-clause-room : goal.returns-clause-room
returns-clause-room c =
    let made : c.reserve.new.self ≡ with_spare (empty_table c.args.blocks) (max 0 564) = c.in_ok-reserve.ensures.ok ∙ ap (λ (table : Table). with_spare table (max table.spare 564)) c.in_ok-table.ensures in
    let free : c.args.blocks ≤ free_blocks (empty_table c.args.blocks) + 18 = most_are_free c.args.blocks in
    subst (λ (table : Table). HasRoom table 564) (sym made) (record { spare = omega arith; free = omega (arith, free, c.requires.least) })
