use Rattle.std.proofs.Common.{◌≡◌, take}
use Rattle.attribute_items.proofs.entries.copy_text.Given as goal

abbrev pub invariant-loop-place : goal.invariant-loop-place
invariant-loop-place l = take l.place l.into ≡ take l.place l.text
