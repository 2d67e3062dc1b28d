-- Which names are looked for.
use Rattle.std.specs.Prelude.{Bool}
use Rattle.flat_model.specs.Names.{FlatName, is_in_slot, leads_to}
use Rattle.recovered_view.specs.Kept.{is_kept}
use Rattle.recovered_view.specs.Log.{IsLogAt, log_said}
use Rattle.recovered_view.specs.declared.sought.Sought.{Sought}
use Rattle.recovered_view.specs.declared.sought.Sought.TheVariants as soughts

-- whether a name is one of those that are looked for: that of a slot, those of an inode, or those that a log keeps
abbrev pub is_sought : Sought → FlatName → Bool
is_sought (soughts.InSlot dir bytes) name = is_in_slot dir bytes.now name
is_sought (soughts.Of ino) name = leads_to ino name
is_sought (soughts.Kept table log) name = is_kept (log_said table.now log) name

-- the log that keeps or drops names can be read
abbrev pub CanBeSought : Sought → Type 0
CanBeSought (soughts.InSlot dir bytes) = Unit {0}
CanBeSought (soughts.Of ino) = Unit {0}
CanBeSought (soughts.Kept table log) = IsLogAt table.now log (log_said table.now log)
