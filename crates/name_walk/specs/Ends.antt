-- Where a path leads, and what stands in a slot, as the code keeps them.
use Rattle.std.specs.Prelude.{ℕ, List, Some, None}
use Rattle.flat_model.specs.Names.{FlatName}
use Rattle.flat_model.specs.Walk.{WalkEnd, AtRoot, AtSlot, Missing, Blocked}
use Rattle.name_walk.specs.declared.found.Held.{Held}
use Rattle.name_walk.specs.declared.found.End.{End}
use Rattle.name_walk.specs.declared.found.End.TheVariants as ends
use Rattle.name_walk.specs.declared.found.Target.{Target}
use Rattle.name_walk.specs.declared.found.Target.TheVariants as targets

-- the name in a slot, which is a directory and bytes
abbrev pub name_held : ℕ → List ℕ → Held → FlatName
name_held dir bytes held = record { dir = dir; index = held.index; bytes = bytes; ino = held.ino; near = held.near }

-- the end of a walk
abbrev pub end_view : End → WalkEnd
end_view ends.Root = AtRoot
end_view (ends.Free dir name) = AtSlot dir name.now None
end_view (ends.Taken dir name held) = AtSlot dir name.now (Some (name_held dir name.now held))
end_view ends.Missing = Missing
end_view ends.Blocked = Blocked

-- the inode at the end of a walk
abbrev pub target_of : WalkEnd → Target
target_of AtRoot = targets.Inode 256
target_of (AtSlot dir bytes None) = targets.Missing
target_of (AtSlot dir bytes (Some name)) = targets.Inode name.ino
target_of Missing = targets.Missing
target_of Blocked = targets.Blocked
