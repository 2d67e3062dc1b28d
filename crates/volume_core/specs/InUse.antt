-- The blocks of a table that are in use, and how many a volume may use.
use Rattle.std.specs.Prelude.{◌≡◌, ◌↔◌, ◌⊎◌, ◌+◌, ◌-◌, ◌*◌, ◌/◌, ◌==◌, ◌&&◌, ℕ, Bool, cond, not, nat_le, nat_lt, List, [], ◌∷◌, length, Contains}
use Rattle.blk_base.specs.declared.format.TheConstants.{COPY_BLOCK, FIRST_BLOCK}
use Rattle.block_table.specs.declared.state.SlotState.TheVariants.{LetGo}
use Rattle.block_table.specs.Slot.{BlockSlot, is_free}
use Rattle.block_table.specs.Table.{Table}
use Rattle.block_table.specs.TreeIn.{block_at}
use Rattle.commit_images.specs.Scene.{Commit, Reaches}
use Rattle.table_commit.specs.Commit.{addresses_of, let_go_addresses}
use Rattle.volume_seal.specs.Sealed.{states_reach}
use Rattle.commit_blocks.specs.declared.kept.Kept.{Kept}

-- a block that a volume may use, by its number, and that isn't Free ("Superblock": block 16 and those before it, and the second superblock's, aren't used)
abbrev pub is_used : ℕ → BlockSlot → Bool
is_used number slot = nat_le FIRST_BLOCK number && not (number == COPY_BLOCK) && not (is_free slot.state)

-- the byte addresses of these blocks that are in use, where the first has this number
abbrev pub used_from : ℕ → List BlockSlot → List ℕ
used_from number [] = []
used_from number (slot ∷ slots) = cond (is_used number slot) (number * 4096 ∷ used_from (number + 1) slots) (used_from (number + 1) slots)

-- the byte addresses in use, each once, by rising numbers: a volume may use them, and their blocks aren't Free (own)
abbrev pub in_use : Table → List ℕ
in_use table = used_from 0 table.slots

-- how many blocks a volume of so many may use: not the first 17, nor the second superblock's ("Superblock")
abbrev pub usable : ℕ → ℕ
usable blocks = (blocks - FIRST_BLOCK) - cond (nat_lt COPY_BLOCK blocks) 1 0

-- the blocks in use are exactly these, each once (own)
pub record AreInUse (table : Table) (blocks : List ℕ) : Type 0 where
  pub each : (at : ℕ) → Contains (in_use table) at ↔ Contains blocks at
  pub many : length (in_use table) ≡ length blocks

-- the byte addresses of the blocks that were let go, by rising numbers (own)
abbrev pub let_go_in : Table → List ℕ
let_go_in table = addresses_of (let_go_addresses table)

-- nothing was let go since the seal of the full commit that runs: each block that is LetGo was noted there (own)
abbrev pub NoneLetGoSince : Kept → Type 0
NoneLetGoSince kept = (at : ℕ) → (block_at kept.table at).state ≡ LetGo → Contains (addresses_of kept.let_go.items) at

-- the blocks of the current volume
abbrev pub volume_reach : Kept → List ℕ
volume_reach kept = states_reach kept.table kept.states.items

-- the blocks in use are exactly those of the current volume and those that this superblock reaches (own)
pub record AreOfVolumeOrReached (kept : Kept) (commit : Commit) : Type 0 where
  pub only : (at : ℕ) → Contains (in_use kept.table) at → Contains (volume_reach kept) at ⊎ Reaches commit (at / 4096)
  pub volume : (at : ℕ) → Contains (volume_reach kept) at → Contains (in_use kept.table) at
  pub reached : (block : ℕ × List ℕ) → Contains commit.blocks block → Contains (in_use kept.table) (block.0 * 4096)
