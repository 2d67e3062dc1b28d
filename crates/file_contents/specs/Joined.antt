-- Runs of a file's blocks that stand one behind the other ("EXTENT_DATA").
use Rattle.std.specs.Prelude.{◌≡◌, ◌≤◌, ◌<◌, ◌+◌, ◌*◌, ℕ}
use Rattle.file_extents.specs.Extents.{StandsBefore}

-- No two of the runs could be one at the begin of one of these blocks, from one number on and below another: where one run ends there and
-- another begins, they don't follow one another on the disk, or the first has 4096 blocks already (own).
abbrev pub AreJoined : (ℕ → ℕ → ℕ → Type 0) → ℕ → ℕ → Type 0
AreJoined Runs from to =
    (begin at count number place more : ℕ) → Runs begin at count → Runs number place more → begin + count ≡ number → from ≤ number → number < to
    → at + 4096 * count ≡ place → 4096 ≤ count

-- the run is the one that ends in front of a block, where there is such; it is one of the runs or has no block (own)
pub record IsInFront (Runs : ℕ → ℕ → ℕ → Type 0) (number begin at count : ℕ) : Type 0 where
  pub stands : StandsBefore Runs begin at count
  pub ends : (other place more : ℕ) → Runs other place more → other + more ≡ number → (other ≡ begin) × (place ≡ at) × (more ≡ count)
