-- The events of a run.
use Rattle.std.specs.Prelude.{ℕ, List}
use Rattle.commit_history.specs.declared.event.Event.{Event}

-- the events of a run, in their order, and how many more it has memory for (own)
pub record SeenRun : Type 0 where
  pub events : List Event
  pub spare : ℕ
