-- Places as texts: the text of a path, and the number of the inode at its end.
use Rattle.std.specs.Prelude.{ℕ, cond, List, [], ◌++◌, map, reverse}
use Rattle.flat_model.specs.declared.view.NameAt.{NameAt}
use Rattle.flat_model.specs.Unmarked.{unmarked}
use Rattle.flat_model.specs.Volume.{Subvolume, is_dir_at}
use Rattle.volume_listing.specs.Listing.{step_shown}
use Rattle.volume_listing.specs.Order.{ordered}
use Rattle.tree_listing.specs.declared.places.Place.{Place}

-- a name with the inode to which it leads
abbrev pub pair_at : NameAt → List ℕ × ℕ
pair_at at = (at.name, at.ino.0)

-- the names of a directory with the inodes to which they lead, in the order of their bytes
abbrev pub names_shown : Subvolume → ℕ → List (List ℕ × ℕ)
names_shown sub dir = ordered dir (map unmarked sub.names)

-- a place as its text and its number
abbrev pub place_view : Place → List ℕ × ℕ
place_view place = (place.path.items, place.ino)

-- the places that wait; the last one pushed is the next one
abbrev pub waiting_view : List Place → List (List ℕ × ℕ)
waiting_view places = map place_view (reverse places)

-- the place of a name below a path
abbrev pub text_below : List ℕ → List ℕ × ℕ → List ℕ × ℕ
text_below path name = (path ++ step_shown name.0, name.1)

abbrev pub texts_below : List ℕ → List (List ℕ × ℕ) → List (List ℕ × ℕ)
texts_below path names = map (text_below path) names

-- those of the names in a directory; none of any other inode
abbrev pub texts_at : Subvolume → List ℕ → ℕ → List (List ℕ × ℕ)
texts_at sub path ino = cond (is_dir_at sub ino) (texts_below path (names_shown sub ino)) []
