-- What the operations on attributes make of a subvolume.
use Rattle.std.specs.Prelude.{ℕ, Some, None}
use Rattle.std.specs.FinMap.{get}
use Rattle.flat_model.specs.Records.{Attributes, with_attributes}
use Rattle.flat_model.specs.Volume.{RunSub}
use Rattle.flat_model.specs.Operations.{with_record}

-- a subvolume in its run with these attributes of an inode, where it is there
abbrev pub with_attributes_of : RunSub → ℕ → Attributes → RunSub
with_attributes_of run ino attributes = elim (get run.sub.inodes ino) [ None ↦ run | Some inode ↦ record run { sub = with_record run.sub ino (with_attributes inode attributes) } ]
