-- Blocks and buffers that are taken and given back together.
use Rattle.std.specs.Prelude.{◌≡◌, ◌+◌}
use Rattle.block_table.specs.Table.{Table, free_blocks}

-- as many buffers are no longer spare, or again, as blocks are no longer Free, or again (own)
abbrev pub AreBalanced : Table → Table → Type 0
AreBalanced old new = new.spare + free_blocks old ≡ old.spare + free_blocks new
