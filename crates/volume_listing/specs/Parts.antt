-- The parts of a listing by the subvolumes as the code has them.
use Rattle.std.specs.Prelude.{ℕ, List}
use Rattle.flat_sub.specs.declared.sub.FlatSub.{FlatSub}
use Rattle.flat_sub.specs.View.{sub_view}
use Rattle.volume_listing.specs.Listing.{part_of, count_of}

-- the lines of a subvolume behind the line of its number
abbrev pub part_at : ℕ × FlatSub → List ℕ
part_at entry = part_of (entry.0, (sub_view entry.1).sub)

-- how many of them are those of inodes
abbrev pub count_at : ℕ × FlatSub → ℕ
count_at entry = count_of (sub_view entry.1).sub
