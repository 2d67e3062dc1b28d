use Rattle.std.proofs.Common.{◌≡◌, take}
use Rattle.volume_listing.proofs.text.bytes_of.Given as goal

abbrev pub invariant-loop-place : goal.invariant-loop-place
invariant-loop-place l = l.bytes.items ≡ take l.place l.text
