-- A name without its mark, as the calls hand it out.
use Rattle.flat_model.specs.declared.view.NameAt.{NameAt}
use Rattle.flat_model.specs.Names.{FlatName}

-- a name without its mark
abbrev pub unmarked : FlatName → NameAt
unmarked name = record { dir = record { 0 = name.dir }; index = name.index; name = name.bytes; ino = record { 0 = name.ino } }
