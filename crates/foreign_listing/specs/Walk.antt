-- The listing of a subvolume: directory 256, and each directory's names in the order of their bytes, each followed by what is
-- below it; or the first fault in this order.
use Rattle.std.specs.Prelude.{ℕ, zero, suc, ◌+◌, Bool, true, false, List, [], ◌∷◌, ◌++◌, length, Result, Ok, Err, if◌then◌else◌}
use Rattle.foreign_format.specs.declared.entry.EntryKind.{EntryKind}
use Rattle.foreign_format.specs.declared.entry.EntryKind.TheVariants.{Dir, File, Chr, Blk, Fifo, Sock, Link, Sub}
use Rattle.foreign_format.specs.declared.fault.ForeignFault.{ForeignFault}
use Rattle.foreign_format.specs.Answer.{and_then}
use Rattle.foreign_items.specs.Rows.{NameValue}
use Rattle.foreign_tree.specs.Tree.{VolumeValue, was_reached}
use Rattle.foreign_listing.specs.Lines.{TreeValue, incoherent, line_of}
use Rattle.foreign_listing.specs.Names.{Place, in_byte_order, places_below, rows_beside, rows_of}

-- a text, and how many lines of names it has
pub record Listed : Type 0 where
  pub text : List ℕ
  pub lines : ℕ

-- Between two names: what is listed, the directories that were reached, and the rows of those that weren't.
pub record Between : Type 0 where
  pub listed : Listed
  pub reached : List ℕ
  pub rows : List NameValue

-- behind a place, and the places that are the next ones
pub record Visited : Type 0 where
  pub between : Between
  pub below : List Place

-- one line more
abbrev pub with_line : Listed → List ℕ → Listed
with_line listed line = record { text = listed.text ++ line; lines = listed.lines + 1 }

-- behind a directory's line, where its names are the next ones
abbrev pub entered : Place → List ℕ → Between → Result Visited ForeignFault
entered place line before = and_then (in_byte_order [] (rows_of place.to before.rows)) (λ entries. Ok (record {
  between = record { listed = with_line before.listed line; reached = before.reached ++ place.to ∷ []; rows = rows_beside place.to before.rows };
  below = places_below place.path entries;
}))

-- a directory is listed, where it wasn't reached before
abbrev pub enter : VolumeValue → List ℕ → TreeValue → Place → Between → Result Visited ForeignFault
enter volume disk tree place before =
    if was_reached place.to before.reached then Err (incoherent tree.sub place.to) else
    and_then (line_of volume disk tree place) (λ line. entered place line before)

-- anything else is listed
abbrev pub pass : VolumeValue → List ℕ → TreeValue → Place → Between → Result Visited ForeignFault
pass volume disk tree place before = and_then (line_of volume disk tree place) (λ line. Ok (record {
  between = record { listed = with_line before.listed line; reached = before.reached; rows = before.rows };
  below = [];
}))

abbrev pub is_dir : EntryKind → Bool
is_dir Dir = true
is_dir File = false
is_dir Chr = false
is_dir Blk = false
is_dir Fifo = false
is_dir Sock = false
is_dir Link = false
is_dir Sub = false

-- a place is listed, by the kind of its entry
unfoldable pub visit : VolumeValue → List ℕ → TreeValue → Place → Between → Result Visited ForeignFault
visit volume disk tree place before = if is_dir place.kind then enter volume disk tree place before else pass volume disk tree place before

-- The places that are to be listed, the next one first, and what is below them; so many and no more. A row is taken once, so
-- that rows and places together are one less at each step.
unfoldable pub visit_all : ℕ → VolumeValue → List ℕ → TreeValue → List Place → Between → Result Listed ForeignFault
visit_all n volume disk tree [] before = Ok before.listed
visit_all zero volume disk tree (place ∷ pending) before = Ok before.listed
visit_all (suc n) volume disk tree (place ∷ pending) before =
    and_then (visit volume disk tree place before) (λ after. visit_all n volume disk tree (after.below ++ pending) after.between)

-- the root directory of a subvolume
abbrev pub root_place : Place
root_place = record { path = []; to = 256; kind = Dir }

-- the listing of a subvolume with these rows of names behind what is listed so far, or the first fault
unfoldable pub tree_listed : VolumeValue → List ℕ → TreeValue → List NameValue → Listed → Result Listed ForeignFault
tree_listed volume disk tree rows listed =
    visit_all (suc (length rows)) volume disk tree (root_place ∷ []) (record { listed = listed; reached = []; rows = rows })
