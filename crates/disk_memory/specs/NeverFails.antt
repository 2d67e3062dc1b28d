-- A disk in memory that never fails, as its callers see it.
use Rattle.disk_model.specs.Disk.{Image}
use Rattle.disk_memory.specs.declared.never_fails.NeverFails.{NeverFails}

-- what a read gives (own)
abbrev pub never_reads : NeverFails → Image
never_reads disk = disk.image.items.items
