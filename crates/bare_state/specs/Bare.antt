-- A bare subvolume in a run that begins with it.
use Rattle.flat_model.specs.Volume.{RunSub, bare_numbers, bare_subvolume}

-- nothing but the root directory, and the numbers of nothing more
abbrev pub bare_run : RunSub
bare_run = record { sub = bare_subvolume; numbers = bare_numbers }
