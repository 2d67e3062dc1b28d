-- When a gone directory is stranded.
use Rattle.std.specs.Prelude.{ℕ, Bool, not, ◌&&◌, List}
use Rattle.std.specs.BTreeSet.{BTreeSet, contains}
use Rattle.std.specs.List.{list_any}
use Rattle.std.specs.Ordering.{nat_cmp}
use Rattle.blk_base.specs.declared.key.Ino.{Ino}
use Rattle.flat_model.specs.declared.view.NameAt.{NameAt}
use Rattle.flat_model.specs.Names.{stands_in}
use Rattle.flat_model.specs.Volume.{Subvolume, is_dir_at}
use Rattle.logged_volume.specs.Numbers.{is_in}

-- whether one of the names is of an inode that is no member
abbrev pub has_other : BTreeSet ℕ → List NameAt → Bool
has_other members names = list_any (λ name. not (contains nat_cmp members name.ino.0)) names

-- whether the inode is a directory of R with a name of an inode that is no member
abbrev pub does_strand : Subvolume → List ℕ → Ino → Bool
does_strand logged members dir = is_dir_at logged dir.0 && list_any (λ name. stands_in dir.0 name && not (is_in members name.ino)) logged.names
