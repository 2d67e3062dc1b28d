-- An opened volume as its caller has it.
use Rattle.foreign_tree.specs.Tree.{volume_value}
use Rattle.foreign_volume.specs.declared.opened.Opened.{Opened}
use Rattle.foreign_volume.specs.Opened.{OpenedValue}

abbrev pub opened_value : Opened → OpenedValue
opened_value opened = record { superblock = opened.superblock; volume = volume_value opened.volume }
