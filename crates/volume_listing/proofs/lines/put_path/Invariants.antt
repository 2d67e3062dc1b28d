use Rattle.std.proofs.Common.{◌≡◌, ◌++◌, take}
use Rattle.std.specs.List.{flat_map}
use Rattle.volume_listing.specs.Listing.{step_shown}
use Rattle.volume_listing.proofs.lines.put_path.Given as goal

abbrev pub invariant-loop-name : goal.invariant-loop-name
invariant-loop-name l = l.text.items ≡ l.initial.text.items ++ flat_map step_shown (take l.name-index l.path.items)
