-- Places at which a name stands.
use Rattle.std.specs.Prelude.{Some}
use Rattle.flat_model.specs.Names.{FlatName}
use Rattle.flat_model.specs.Walk.{WalkEnd, AtSlot}

-- the slot in which this name stands
abbrev pub at_name : FlatName → WalkEnd
at_name name = AtSlot name.dir name.bytes (Some name)
