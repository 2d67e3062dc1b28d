-- The states of the first so many subvolumes were made, and the list has room for all.
use Rattle.std.proofs.Common.{◌≡◌, ◌≤◌, vec_capacity, vec_len}
use Rattle.bare_volume.proofs.Made.{AreMade}
use Rattle.bare_volume.proofs.states.bare_states.Given as goal

abbrev pub invariant-loop-place : goal.invariant-loop-place
invariant-loop-place l = record {
  made : AreMade l.initial.table l.table l.states.items l.running l.place;
  count : vec_len l.states ≡ l.place;
  fits : l.subs ≤ vec_capacity l.states;
}
