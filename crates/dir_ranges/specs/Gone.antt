-- What a log has of an inode that is gone: a range for the index of each name that the committed subvolume has of it.
use Rattle.std.specs.Prelude.{◌≡◌, ◌↔◌, ◌-◌, ◌^◌, ℕ, Bool, not, cond, List, [], ◌∷◌, ◌++◌, map, filter, find, Option, Some, None, Contains}
use Rattle.std.specs.List.{flat_map}
use Rattle.blk_base.specs.declared.key.Key.{Key}
use Rattle.blk_base.specs.Keys.{inode_extref}
use Rattle.blk_base.specs.Leaf.{Item}
use Rattle.flat_model.specs.declared.view.NameAt.{NameAt}
use Rattle.flat_model.specs.Names.{FlatName, names_of}
use Rattle.flat_model.specs.Volume.{Subvolume}
use Rattle.logged_volume.specs.FlatLog.{AreDistinct, LogRange, FlatLog, is_covered}
use Rattle.volume_image.specs.Subvolume.{make_key}
use Rattle.log_image.specs.LogItems.{ranges_in}
use Rattle.current_view.specs.Told.{refs_of, refs_told}
use Rattle.dir_ranges.specs.declared.place.Place.{Place}
use Rattle.dir_ranges.specs.declared.uncovered.Uncovered.{Uncovered}
use Rattle.dir_ranges.specs.Ranges.{with_range}

-- ---- the flat log

-- the range of a name's index alone ("DIR_LOG_INDEX")
abbrev pub range_of_name : FlatName → LogRange
range_of_name name = record { dir = name.dir; first = name.index; last = name.index }

-- the ranges of these names' indexes, but for those that a range of the log covers (own)
abbrev pub ranges_for : FlatLog → List FlatName → List LogRange
ranges_for log names = map range_of_name (filter (λ name. not (is_covered log.ranges name.dir name.index)) names)

-- The log after an inode is gone that the committed subvolume has: its ranges are those that it had, and one for the index of each
-- name of the inode that none of them covers, in any order and none twice; all else stays (after insert_dir_log_key of fs/btrfs/tree-log.c, own).
pub record IsGoneWritten (committed : Subvolume) (ino : ℕ) (log after : FlatLog) : Type 0 where
  pub whole : after.whole ≡ log.whole
  pub existing : after.existing ≡ log.existing
  pub names : after.names ≡ log.names
  pub entries : after.entries ≡ log.entries
  pub ranges : (range : LogRange) → Contains after.ranges range ↔ Contains (log.ranges ++ ranges_for log (names_of committed.names ino)) range
  pub ranges_once : AreDistinct after.ranges

-- ---- the items

-- the place of a name, and those that an item of refs says, near or far ("INODE_REF", "INODE_EXTREF")
abbrev pub place_of : NameAt → Place
place_of name = record { dir = name.dir.0; index = name.index }

abbrev pub places_told : Item → List Place
places_told item = map place_of (refs_told item)

-- the places of the names that a tree's items say of an inode, by rising keys of its refs
abbrev pub places_in : List Item → ℕ → List Place
places_in items ino = flat_map places_told (refs_of items ino)

-- the range of a place alone
abbrev pub range_at : Place → LogRange
range_at place = record { dir = place.dir; first = place.index; last = place.index }

-- whether none of the ranges covers the place
abbrev pub is_uncovered : List LogRange → Place → Bool
is_uncovered ranges place = not (is_covered ranges place.dir place.index)

-- the items of a log with a range of this place alone, unless a range covers it
abbrev pub with_place : Place → List Item → List Item
with_place place items = cond (is_uncovered (ranges_in items) place) (with_range (range_at place) items) items

-- with those of these places, one after the other
abbrev pub with_places : List Place → List Item → List Item
with_places [] items = items
with_places (place ∷ places) items = with_places places (with_place place items)

-- the last key that a ref of an inode may have
abbrev pub last_ref : ℕ → Key
last_ref ino = make_key ino inode_extref (2 ^ 64 - 1)

-- the first of these items with an uncovered place, and the place
abbrev pub found_in : Key → Option Place → Option Uncovered → Option Uncovered
found_in key None others = others
found_in key (Some place) others = Some (record { key = key; place = place })

abbrev pub first_uncovered : List LogRange → List Item → Option Uncovered
first_uncovered ranges [] = None
first_uncovered ranges (item ∷ items) = found_in item.0 (find (is_uncovered ranges) (places_told item)) (first_uncovered ranges items)
