use Rattle.std.proofs.Common.{◌≡◌, ◌++◌, take}
use Rattle.std.specs.List.{flat_map}
use Rattle.std.specs.FinMap.{entries}
use Rattle.flat_model.specs.Records.{attributes_of}
use Rattle.volume_listing.specs.Listing.{attribute_line}
use Rattle.volume_listing.proofs.lines.put_attributes.Given as goal

abbrev pub invariant-loop-place : goal.invariant-loop-place
invariant-loop-place l = l.text.items ≡ l.initial.text.items ++ flat_map attribute_line (take l.place (entries (attributes_of l.inode)))
