use Rattle.std.proofs.Common.{◌≡◌, ◌+◌, ◌-◌, ◌^◌, min, drop}
use Rattle.std.specs.List.{sum_by}
use Rattle.flat_sub.specs.Lists.{share_of}
use Rattle.flat_sub.specs.View.{names_view}
use Rattle.flat_check.proofs.items.fits.Given as goal

abbrev pub invariant-loop-index : goal.invariant-loop-index
invariant-loop-index l = min (l.sum + sum_by (share_of l.item) (drop l.index (names_view l.sub.names.items l.sub.near.items))) (2 ^ 64 - 1) ≡ min (sum_by (share_of l.item) (names_view l.sub.names.items l.sub.near.items)) (2 ^ 64 - 1)
