-- Callers in an order.
use Rattle.std.specs.Prelude.{◌≢◌, ◌≤◌, ℕ, List, All, AllPairs}

-- each of these callers is 1 to 16, and none stands there twice (own)
pub record AreCallers (callers : List ℕ) : Type 0 where
  pub each : All (λ caller. (1 ≤ caller) × (caller ≤ 16)) callers
  pub once : AllPairs (λ one other. one ≢ other) callers
