-- Byte addresses at which a volume may keep a block of a tree or of data.
use Rattle.std.specs.Prelude.{◌≡◌, ◌≢◌, ◌≤◌, ◌<◌, ◌/◌, ◌%◌, ℕ, Bool, ◌&&◌, not, nat_lt, nat_le, ◌==◌}
use Rattle.blk_base.specs.declared.format.TheConstants.{BLOCK_SIZE, FIRST_BLOCK, COPY_BLOCK}

-- a whole block inside the volume, behind the first superblock and not the second one's ("Superblock": its copies)
pub record IsAllowed (blocks at : ℕ) : Type 0 where
  pub aligned : at % BLOCK_SIZE ≡ 0
  pub inside : at / BLOCK_SIZE < blocks
  pub behind_super : FIRST_BLOCK ≤ at / BLOCK_SIZE
  pub no_copy : at / BLOCK_SIZE ≢ COPY_BLOCK

-- the test of the same
abbrev pub is_allowed : ℕ → ℕ → Bool
is_allowed blocks at = (at % BLOCK_SIZE == 0) && nat_lt (at / BLOCK_SIZE) blocks && nat_le FIRST_BLOCK (at / BLOCK_SIZE) && not (at / BLOCK_SIZE == COPY_BLOCK)
