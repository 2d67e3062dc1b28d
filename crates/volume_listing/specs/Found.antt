-- The code of a listed inode, by which a proof tells them apart, and what one name adds to a walk.
use Rattle.std.specs.Prelude.{ℕ, cond, List, [], ◌∷◌, ◌++◌, refl}
use Rattle.std.specs.Coded.{Coded, code_by, coded×, coded_ℕ, coded_list}
use Rattle.flat_model.specs.Codes.{bytes_code}
use Rattle.flat_model.specs.Volume.{Subvolume, is_dir_at}
use Rattle.volume_listing.specs.Listing.{Listed, below}

-- the code of a listed inode
abbrev pub listed_code : Coded Listed
listed_code = code_by (List (List ℕ) × ℕ) (coded× (coded_list bytes_code) coded_ℕ) (λ l. (l.path, l.ino)) (λ p. record { path = p.0; ino = p.1 }) (λ _. refl)

-- a name of a directory, and what is below it
abbrev pub below_name : ℕ → Subvolume → List (List ℕ) → List ℕ × ℕ → List Listed
below_name depth sub path entry = record { path = path ++ entry.0 ∷ []; ino = entry.1 } ∷ cond (is_dir_at sub entry.1) (below depth sub entry.1 (path ++ entry.0 ∷ [])) []
