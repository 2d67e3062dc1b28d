-- The bytes so far are copied.
use Rattle.std.proofs.Common.{◌≡◌, take}
use Rattle.name_ops.proofs.making.copy_text.Given as goal

abbrev pub invariant-loop-place : goal.invariant-loop-place
invariant-loop-place l = take l.place l.into ≡ take l.place l.text
