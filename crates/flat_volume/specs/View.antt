-- How the fields of a `FlatVolume` are seen, and what holds of them.
use Rattle.std.specs.Prelude.{ℕ, ◌≤◌, List, length, map, All, IsTrue}
use Rattle.std.specs.Ordering.{nat_cmp}
use Rattle.std.specs.FinMap.{from_entries, is_sorted}
use Rattle.flat_model.specs.Volume.{RunVolume}
use Rattle.flat_sub.specs.declared.sub.FlatSub.{FlatSub}
use Rattle.flat_sub.specs.View.{sub_view, IsWellKept}

-- a volume in its run
abbrev pub volume_view : List (ℕ × FlatSub) → RunVolume
volume_view subs = from_entries (map (λ e. (e.0, sub_view e.1)) subs)

-- the subvolumes, at most 16, rise by their numbers, and each is well kept
pub record AreWellKept (subs : List (ℕ × FlatSub)) : Type 0 where
  pub each : All (λ e. IsWellKept e.1) subs
  pub numbers_rise : IsTrue (is_sorted nat_cmp subs)
  pub few : length subs ≤ 16
