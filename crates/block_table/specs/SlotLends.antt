-- A block of the table that is lent for writing.
use Rattle.std.specs.Prelude.{ℕ, List}
use Rattle.std.specs.Borrow.{Lends, MutBor, Fml, Array, u8}
use Rattle.block_table.specs.Slot.{BlockSlot}
use Rattle.block_table.specs.contracts.slot.Slot.{the_row}

-- it ends with the bytes that were written last
abbrev pub LendsBytes : MutBor BlockSlot → MutBor (List ℕ) → Fml
LendsBytes slot block = Lends the_row (Array u8 4096) slot block (λ bytes. record slot.now { bytes = bytes })
