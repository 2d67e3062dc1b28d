-- Ranges of a log as items, and one of them put in.
use Rattle.std.specs.Prelude.{◌≡◌, ◌≤◌, ◌<◌, ◌^◌, ℕ, Bool, List, None, Contains, nat_le}
use Rattle.blk_base.specs.declared.key.Key.{Key}
use Rattle.blk_base.specs.Bytes.{number_bytes}
use Rattle.blk_base.specs.Keys.{dir_log_index}
use Rattle.blk_base.specs.Leaf.{Item}
use Rattle.blk_base.specs.Items.{range_of}
use Rattle.tree_frame.specs.Frame.{with_item}
use Rattle.tree_range.specs.Between.{data_under}
use Rattle.logged_volume.specs.FlatLog.{LogRange, FlatLog}
use Rattle.volume_image.specs.Subvolume.{Data, make_key}
use Rattle.log_image.specs.LogItems.{AreItemsOfLog, ranges_in, read_or}

-- a range's item: under (directory, 72, first index) its last index ("DIR_LOG_INDEX")
abbrev pub range_key : LogRange → Key
range_key range = make_key range.dir dir_log_index range.first

abbrev pub range_bytes : LogRange → List ℕ
range_bytes range = number_bytes 8 range.last

-- the items with that of the range in its place
abbrev pub with_range : LogRange → List Item → List Item
with_range range items = with_item (range_key range) (range_bytes range) items

-- whether a range's item reaches an index: its last index isn't below ("DIR_LOG_INDEX")
abbrev pub does_reach : ℕ → List ℕ → Bool
does_reach index bytes = nat_le index (read_or 0 (range_of bytes))

-- each of these ranges has its first index in it, as those that a log step writes have (own)
abbrev pub AreForward : List LogRange → Type 0
AreForward ranges = (range : LogRange) → Contains ranges range → range.first ≤ range.last

-- the flat log with these ranges in place of its own
abbrev pub log_with : List LogRange → FlatLog → FlatLog
log_with ranges log = record log { ranges = ranges }

-- where items are those of a flat log, and none is under the range's key, they are those of the log with the range when its item is put in
abbrev pub PutsARange : Type 0
PutsARange =
    (items : List Item) (blocks : Data) (log : FlatLog) (range : LogRange)
    → range.last < 2 ^ 64 → data_under (range_key range) items ≡ None
    → AreItemsOfLog items blocks log
    → AreItemsOfLog (with_range range items) blocks (log_with (ranges_in (with_range range items)) log)
