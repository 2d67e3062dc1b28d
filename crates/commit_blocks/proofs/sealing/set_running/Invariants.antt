-- The states in front of the place have the generation.
use Rattle.std.proofs.Common.{◌≡◌, ◌++◌, drop, map, take}
use Rattle.commit_blocks.proofs.Running.{set_running}
use Rattle.commit_blocks.proofs.sealing.set_running.Given as goal

abbrev pub invariant-loop-place : goal.invariant-loop-place
invariant-loop-place l = l.states ≡ map (set_running l.fn.generation) (take l.place l.initial.states) ++ drop l.place l.initial.states
