-- What a foreign volume is, and its listing.
use Rattle.std.specs.Prelude.{◌≡◌, ℕ, zero, suc, ◌+◌, Bool, true, false, List, [], ◌∷◌, ◌++◌, length, Ok}
use Rattle.std.specs.List.{concat}
use Rattle.blk_base.specs.Bytes.{Image}
use Rattle.blk_base.specs.Trees.{NoneTwice}
use Rattle.foreign_format.specs.Items.{EntryValue}
use Rattle.foreign_tree.specs.Tree.{VolumeValue, disk_bytes}
use Rattle.foreign_volume.specs.declared.roots.Subvolume.{Subvolume}
use Rattle.foreign_volume.specs.Opened.{IsOpened, OpenedValue}
use Rattle.foreign_volume.specs.Roots.{AreSubvolumes}
use Rattle.foreign_items.specs.Rows.{AreItems, ItemsValue, NameValue}
use Rattle.foreign_listing.specs.Lines.{TreeValue, line_of}
use Rattle.foreign_listing.specs.Listing.{tree_in, with_done, with_head}
use Rattle.foreign_listing.specs.Names.{Place, in_byte_order, places_below, rows_of}
use Rattle.foreign_listing.specs.Walk.{Listed, is_dir, root_place}

-- the places' lines, those of one behind those of the other, and all directories among them and below
abbrev pub AreShown : (Place → List (List ℕ) → List ℕ → Type 0) → List Place → List (List ℕ) → List ℕ → Type 0
AreShown shown [] lines dirs = (lines ≡ []) × (dirs ≡ [])
AreShown shown (place ∷ places) lines dirs =
    (part : List (List ℕ)) × (rest : List (List ℕ)) × (near : List ℕ) × (far : List ℕ)
    × shown place part near × AreShown shown places rest far × (lines ≡ part ++ rest) × (dirs ≡ near ++ far)

-- the line of a directory, and behind it those of its names in the order of their bytes
pub record IsDirShown (below : Place → List (List ℕ) → List ℕ → Type 0) (volume : VolumeValue) (disk : List ℕ) (tree : TreeValue)
    (rows : List NameValue) (place : Place) (lines : List (List ℕ)) (dirs : List ℕ) : Type 0 where
  pub line : List ℕ
  pub entries : List EntryValue
  pub under : List (List ℕ)
  pub inner : List ℕ
  pub has_line : line_of volume disk tree place ≡ Ok line
  pub has_names : in_byte_order [] (rows_of place.to rows) ≡ Ok entries
  pub names : AreShown below (places_below place.path entries) under inner
  pub all : lines ≡ line ∷ under
  pub reached : dirs ≡ place.to ∷ inner

-- the line of anything else
abbrev pub IsLineShown : VolumeValue → List ℕ → TreeValue → Place → List (List ℕ) → List ℕ → Type 0
IsLineShown volume disk tree place lines dirs = (line : List ℕ) × (line_of volume disk tree place ≡ Ok line) × (lines ≡ line ∷ []) × (dirs ≡ [])

-- a place's lines, by whether it is a directory
abbrev pub IsShownBy : Bool → (Place → List (List ℕ) → List ℕ → Type 0) → VolumeValue
    → List ℕ → TreeValue → List NameValue → Place → List (List ℕ) → List ℕ → Type 0
IsShownBy true below volume disk tree rows place lines dirs = IsDirShown below volume disk tree rows place lines dirs
IsShownBy false below volume disk tree rows place lines dirs = IsLineShown volume disk tree place lines dirs

-- The lines of a place and of all below it, which is less than so many names deep, and the directories among them: each inode has
-- a line, and each directory's entries are names.
abbrev pub IsShown : ℕ → VolumeValue → List ℕ → TreeValue → List NameValue → Place → List (List ℕ) → List ℕ → Type 0
IsShown zero volume disk tree rows place lines dirs = ⊥
IsShown (suc depth) volume disk tree rows place lines dirs =
    IsShownBy (is_dir place.kind) (IsShown depth volume disk tree rows) volume disk tree rows place lines dirs

-- the names from a root directory down form a tree with these lines, in which no directory is reached twice
pub record IsTreeShown (volume : VolumeValue) (disk : List ℕ) (tree : TreeValue) (rows : List NameValue) (lines : List (List ℕ)) : Type 0 where
  pub depth : ℕ
  pub dirs : List ℕ
  pub shown : IsShown depth volume disk tree rows root_place lines dirs
  pub once : NoneTwice dirs

-- lines behind what is listed so far
abbrev pub with_lines : Listed → List (List ℕ) → Listed
with_lines listed lines = record { text = listed.text ++ concat lines; lines = listed.lines + length lines }

-- the subvolumes' lines behind what is listed so far, each behind the line of its number
abbrev pub AreListed : VolumeValue → List ℕ → List Subvolume → Listed → Listed → Type 0
AreListed volume disk [] before after = before ≡ after
AreListed volume disk (sub ∷ subs) before after =
    (items : ItemsValue) × (lines : List (List ℕ)) × AreItems disk volume sub items × IsTreeShown volume disk (tree_in sub.id items) items.names lines
    × AreListed volume disk subs (with_lines (with_head sub.id before) lines) after

-- The disk of so many blocks has a foreign volume with this listing: it opens, its root tree has subvolumes, and each of these
-- has a tree of items in which the names from directory 256 down form a tree.
pub record IsForeign (blocks : ℕ) (image : Image) (text : List ℕ) : Type 0 where
  pub opened : OpenedValue
  pub opens : IsOpened blocks image opened
  pub subs : List Subvolume
  pub has_subs : AreSubvolumes (disk_bytes image) opened.volume opened.superblock subs
  pub listed : Listed
  pub lists : AreListed opened.volume (disk_bytes image) subs (record { text = []; lines = 0 }) listed
  pub whole : text ≡ with_done listed
