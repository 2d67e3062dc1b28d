-- The indexes at which a directory has names in two trees, and those at which both say the same.
use Rattle.std.specs.Prelude.{◌≡◌, ◌+◌, ◌-◌, ◌^◌, ℕ, Bool, false, cond, nat_lt, ◌&&◌, List, [], ◌∷◌, ◌++◌, map, filter, bytes_eq, nat_eq, Option, Some, None}
use Rattle.blk_base.specs.Entries.{EntryValue, entries_of}
use Rattle.blk_base.specs.Keys.{dir_index}
use Rattle.blk_base.specs.Leaf.{Item}
use Rattle.block_table.specs.declared.tree.Tree.{Tree}
use Rattle.block_table.specs.Table.{Table}
use Rattle.flat_model.specs.Volume.{Subvolume}
use Rattle.name_walk.specs.Given.{GivesCoherent}
use Rattle.tree_range.specs.Shape.{tree_items}
use Rattle.logged_volume.specs.FlatLog.{LogRange}
use Rattle.logged_volume.specs.Written.{ranges_of}
use Rattle.logged_volume.specs.Numbers.{gaps_with}
use Rattle.log_image.specs.LogItems.{read_or}
use Rattle.tree_range.specs.Between.{data_under, items_between}
use Rattle.volume_image.specs.Subvolume.{make_key}
use Rattle.dir_ranges.specs.Ranges.{with_range}

-- the greatest offset of a key
abbrev pub last_index : ℕ
last_index = 2 ^ 64 - 1

-- the items of a directory's indexes from the first to the last, both included ("DIR_INDEX")
abbrev pub indexes_between : ℕ → ℕ → ℕ → List Item → List Item
indexes_between dir first last items = items_between (make_key dir dir_index first) (make_key dir dir_index last) items

abbrev pub index_of : Item → ℕ
index_of item = item.0.offset

-- ---- what an index's item says

abbrev pub first_of : List EntryValue → Option EntryValue
first_of [] = None
first_of (entry ∷ entries) = Some entry

-- the entry of an item at an index, which has one
abbrev pub entry_at : List ℕ → Option EntryValue
entry_at bytes = first_of (read_or [] (entries_of dir_index bytes))

-- whether two entries have one name and lead to one inode
abbrev pub are_alike : Option EntryValue → Option EntryValue → Bool
are_alike None other = false
are_alike (Some one) None = false
are_alike (Some one) (Some two) = bytes_eq one.name two.name && nat_eq one.target.objectid two.target.objectid

abbrev pub is_alike_under : Option (List ℕ) → List ℕ → Bool
is_alike_under None bytes = false
is_alike_under (Some other) bytes = are_alike (entry_at bytes) (entry_at other)

-- whether the other items say the same under the item's key
abbrev pub is_unchanged : List Item → Item → Bool
is_unchanged others item = is_alike_under (data_under item.0 others) item.1

-- ---- the directory

-- the indexes, from this one on, at which both trees say the same of the directory, by the committed one's items
abbrev pub unchanged_from : List Item → List Item → ℕ → ℕ → List ℕ
unchanged_from committed current dir first = map index_of (filter (is_unchanged current) (indexes_between dir first last_index committed))

-- all at which one of them has the directory's names
abbrev pub all_in : List Item → List Item → ℕ → List ℕ
all_in committed current dir = map index_of (indexes_between dir 0 last_index committed ++ indexes_between dir 0 last_index current)

-- a range of the directory: an interval, by its first index and the one behind its last
abbrev pub range_in : ℕ → ℕ × ℕ → LogRange
range_in dir gap = record { dir = dir; first = gap.0; last = gap.1 - 1 }

-- each maximal interval of indexes without an unchanged one, where it has a changed one ("DIR_LOG_INDEX")
abbrev pub ranges_between : List Item → List Item → ℕ → List LogRange
ranges_between committed current dir = map (range_in dir) (gaps_with (unchanged_from committed current dir 0) (all_in committed current dir) (2 ^ 64))

-- the items with those of these ranges put in, one after the other
abbrev pub with_ranges : List LogRange → List Item → List Item
with_ranges [] items = items
with_ranges (range ∷ ranges) items = with_ranges ranges (with_range range items)

-- ---- intervals one after the other

-- where an interval ends: before this unchanged index, or behind all indexes
abbrev pub end_of : Option ℕ → ℕ
end_of None = 2 ^ 64
end_of (Some index) = index

-- where the next one begins
abbrev pub low_behind : Option ℕ → Option ℕ
low_behind None = None
low_behind (Some index) = cond (nat_lt index last_index) (Some (index + 1)) None

-- ---- the subvolumes that the trees give

-- the ranges by two trees' items are those of the coherent subvolumes that the trees give
abbrev pub TreesSayRanges : Type 0
TreesSayRanges =
    (table : Table) (committed current : Tree) (one two : Subvolume) (dir : ℕ)
    → GivesCoherent table committed one → GivesCoherent table current two
    → ranges_between (tree_items table committed) (tree_items table current) dir ≡ ranges_of one two dir
