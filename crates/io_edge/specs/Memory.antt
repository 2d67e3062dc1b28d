-- A source and a sink in memory, as their callers see them.
use Rattle.std.specs.Prelude.{ℕ, List}

-- The bytes that are left to give, the numbers of the reads that fail, from 1, and how many reads were made and failed (own).
-- Both counts stand still at 2^64 - 1.
pub record SourceState : Type 0 where
  pub left : List ℕ
  pub fails : List ℕ
  pub made : ℕ
  pub faults : ℕ

-- The bytes taken, the numbers of the writes that fail, from 1, and how many writes were made and failed (own).
pub record SinkState : Type 0 where
  pub taken : List ℕ
  pub fails : List ℕ
  pub made : ℕ
  pub faults : ℕ
