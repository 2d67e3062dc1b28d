-- What the calls that build a subvolume piece by piece make of it.
use Rattle.std.specs.Prelude.{ℕ, suc, Bool, true, false, List, [], ◌∷◌}
use Rattle.std.specs.Ordering.{match_ordering}
use Rattle.flat_model.specs.Records.{InodeRecord}
use Rattle.flat_model.specs.Names.{FlatName, add_name, name_cmp}
use Rattle.flat_model.specs.Volume.{RunSub, note_ino, note_name, bare_subvolume, bare_numbers}
use Rattle.flat_model.specs.Operations.{with_record}

-- a subvolume with a further inode
abbrev pub with_inode : ℕ → InodeRecord → RunSub → RunSub
with_inode ino inode run = record { sub = with_record run.sub ino inode; numbers = note_ino run.numbers ino }

-- a subvolume with a further name
abbrev pub with_name : FlatName → RunSub → RunSub
with_name name run = record { sub = record { inodes = run.sub.inodes; names = add_name name run.sub.names }; numbers = note_name run.numbers name }

-- a subvolume in its run with nothing but its root directory
abbrev pub bare_run : RunSub
bare_run = record { sub = bare_subvolume; numbers = bare_numbers }

-- where a name stands, or would stand, in a set of names: behind those below it
abbrev pub place_in : FlatName → List FlatName → ℕ
place_in name [] = 0
place_in name (other ∷ names) = match_ordering (name_cmp name other) 0 0 (suc (place_in name names))

-- whether a set of names has a name
abbrev pub has_name : FlatName → List FlatName → Bool
has_name name [] = false
has_name name (other ∷ names) = match_ordering (name_cmp name other) false true (has_name name names)
