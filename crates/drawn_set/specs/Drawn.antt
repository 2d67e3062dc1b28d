-- What is handed out of an fsync's drawn set.
use Rattle.std.specs.Prelude.{◌≡◌, ℕ, false, not, filter, map, option_map}
use Rattle.blk_base.specs.declared.key.Ino.{Ino}
use Rattle.flat_model.specs.Volume.{Subvolume}
use Rattle.logged_volume.specs.Agreement.{is_there}
use Rattle.logged_volume.specs.Drawn.{drawn_set, conflicts_of, stranded_of}
use Rattle.drawn_set.specs.declared.drawn.Drawn.{Drawn}

-- the inode of a number
abbrev pub ino_of : ℕ → Ino
ino_of number = record { 0 = number }

-- the members of the log step of an fsync of the target, which has no data form, the present ones and the gone ones, the
-- conflicts, and the stranded directory
pub record IsDrawn (current logged : Subvolume) (target : ℕ) (drawn : Drawn) : Type 0 where
  pub present : drawn.present.items ≡ map ino_of (filter (is_there current) (drawn_set current logged target))
  pub gone : drawn.gone.items ≡ map ino_of (filter (λ ino. not (is_there current ino)) (drawn_set current logged target))
  pub conflicts : drawn.conflicts.items ≡ map ino_of (conflicts_of current logged target false)
  pub stranded : drawn.stranded ≡ option_map ino_of (stranded_of current logged target false)
