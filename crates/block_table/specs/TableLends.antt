-- A block of the table that is lent for writing.
use Rattle.std.specs.Prelude.{List, ℕ}
use Rattle.std.specs.Borrow.{Lends, MutBor, Fml, Array, u8}
use Rattle.blk_base.specs.declared.key.Addr.{Addr}
use Rattle.block_table.specs.Table.{Table, slot_at, with_slot}
use Rattle.block_table.specs.contracts.table.BlockTable.{the_row}

-- the table ends with the bytes that were written last at this address, and all else as it was
abbrev pub LendsBlock : MutBor Table → Addr → MutBor (List ℕ) → Fml
LendsBlock table at block =
    Lends the_row (Array u8 4096) table block (λ bytes. with_slot table.now at (record (slot_at table.now at) { bytes = bytes }))
