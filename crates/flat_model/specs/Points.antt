-- What an inode is at the points of a history.
use Rattle.std.specs.Prelude.{ℕ, ◌≤◌, List, [], length, map, Option, Some, None}
use Rattle.std.specs.FinMap.{get}
use Rattle.flat_model.specs.declared.view.NameAt.{NameAt}
use Rattle.flat_model.specs.Records.{InodeRecord}
use Rattle.flat_model.specs.Names.{names_of}
use Rattle.flat_model.specs.Volume.{Volume}
use Rattle.flat_model.specs.Step.{Operated, volume_at}
use Rattle.flat_model.specs.Unmarked.{unmarked}

-- a point of a history: how many of its operations have come (own)
abbrev pub IsPoint : List Operated → ℕ → Type 0
IsPoint history point = point ≤ length history

-- the record of an inode of a subvolume at a point of a history, where it is there then (own)
abbrev pub record_at_point : Volume → List Operated → ℕ → ℕ → ℕ → Option InodeRecord
record_at_point volume history point id ino = elim (get (volume_at volume history point) id) [ None ↦ None | Some sub ↦ get sub.inodes ino ]

-- the names of an inode of a subvolume at a point of a history, in order and without their marks (own)
abbrev pub names_at_point : Volume → List Operated → ℕ → ℕ → ℕ → List NameAt
names_at_point volume history point id ino = elim (get (volume_at volume history point) id) [ None ↦ [] | Some sub ↦ map unmarked (names_of sub.names ino) ]
