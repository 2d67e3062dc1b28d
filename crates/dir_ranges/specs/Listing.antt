-- The listing of a directory in a log: its ranges, and the entries that it has in them.
use Rattle.std.specs.Prelude.{◌≡◌, ℕ, Bool, not, ◌&&◌, ◌||◌, List, None, filter, length, nat_eq, IsTrue}
use Rattle.blk_base.specs.declared.key.Key.{Key}
use Rattle.blk_base.specs.Keys.{dir_index, dir_log_index}
use Rattle.blk_base.specs.Leaf.{Item}
use Rattle.logged_volume.specs.FlatLog.{LogRange, LogEntry, FlatLog}
use Rattle.tree_frame.specs.Frame.{with_item}
use Rattle.tree_range.specs.Between.{data_under}
use Rattle.volume_image.specs.Subvolume.{Data}
use Rattle.log_image.specs.LogItems.{AreItemsOfLog, IsLogItem, entries_in, ranges_in}

-- the types of a listing's items ("DIR_LOG_INDEX", "DIR_INDEX")
abbrev pub is_listing_kind : ℕ → Bool
is_listing_kind kind = nat_eq kind dir_log_index || nat_eq kind dir_index

-- whether an item of a log is of the directory's listing
abbrev pub is_listing_of : ℕ → Item → Bool
is_listing_of dir item = nat_eq item.0.objectid dir && is_listing_kind item.0.kind

-- the items without the directory's listing
abbrev pub items_without_listing : ℕ → List Item → List Item
items_without_listing dir items = filter (λ item. not (is_listing_of dir item)) items

-- how many items the directory's listing has
abbrev pub listing_count : ℕ → List Item → ℕ
listing_count dir items = length (filter (is_listing_of dir) items)

-- ---- the flat log

-- the log without the directory's listing
abbrev pub without_listing : ℕ → FlatLog → FlatLog
without_listing dir log = record log {
  ranges = filter (λ (range : LogRange). not (nat_eq range.dir dir)) log.ranges;
  entries = filter (λ (entry : LogEntry). not (nat_eq entry.dir dir)) log.entries;
}

-- the log with the listings that these items say
abbrev pub with_listings : List Item → FlatLog → FlatLog
with_listings items log = record log { ranges = ranges_in items; entries = entries_in items }

-- where items are those of a flat log, those without a directory's listing are those of the log without it, over the same data
abbrev pub DropsAListing : Type 0
DropsAListing =
    (items : List Item) (blocks : Data) (log : FlatLog) (dir : ℕ)
    → AreItemsOfLog items blocks log
    → AreItemsOfLog (items_without_listing dir items) blocks (without_listing dir log)

-- where a range or an entry may stand in a log, and none is under its key, the items with it put in are those of the log with it
abbrev pub PutsAListing : Type 0
PutsAListing =
    (items : List Item) (blocks : Data) (log : FlatLog) (key : Key) (bytes : List ℕ)
    → IsTrue (is_listing_kind key.kind) → IsLogItem key bytes → data_under key items ≡ None
    → AreItemsOfLog items blocks log
    → AreItemsOfLog (with_item key bytes items) blocks (with_listings (with_item key bytes items) log)
