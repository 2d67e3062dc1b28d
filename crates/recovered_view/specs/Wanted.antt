-- Which names of the log are asked for.
use Rattle.std.specs.Prelude.{Bool}
use Rattle.flat_model.specs.Names.{FlatName, is_hashed_in, leads_to, stands_in}
use Rattle.recovered_view.specs.declared.logged.Wanted.{Wanted}
use Rattle.recovered_view.specs.declared.logged.Wanted.TheVariants as wants

-- whether a name is asked for: those of an inode, those in a directory, or those of a hash there
abbrev pub is_wanted : Wanted → FlatName → Bool
is_wanted (wants.Of ino) name = leads_to ino.0 name
is_wanted (wants.In dir) name = stands_in dir.0 name
is_wanted (wants.Hashed dir hash) name = is_hashed_in dir.0 hash name
