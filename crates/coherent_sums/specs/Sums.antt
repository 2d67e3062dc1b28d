-- Sums over the items of an inode, what is left of a number without them, and counts of names.
use Rattle.std.specs.Prelude.{◌≡◌, ◌<◌, ◌+◌, ℕ, Bool, List, length, sum_by, Option, Some, None}
use Rattle.std.specs.BTreeMap.{get}
use Rattle.std.specs.Option.{unwrap_or}
use Rattle.std.specs.Ordering.{nat_cmp}
use Rattle.blk_base.specs.Entries.{EntryValue, entries_of}
use Rattle.blk_base.specs.Extents.{extent_of}
use Rattle.blk_base.specs.Keys.{dir_index}
use Rattle.blk_base.specs.Leaf.{Item}
use Rattle.volume_image.specs.Subvolume.{extent_len}
use Rattle.image_faults.specs.Said.{inline_content, is_item_of, read_list}
use Rattle.coherent_sums.specs.declared.links.Links.{Links}

abbrev pub is_of : ℕ → ℕ → Item → Bool
is_of kind ino item = is_item_of kind ino item.0

-- how many bytes of its file an extent covers
abbrev pub run_bytes : Item → ℕ
run_bytes item = extent_len item.0 item.1

-- how many bytes an extent has in itself
abbrev pub target_bytes : Item → ℕ
target_bytes item = length (inline_content (extent_of item.0 item.1))

abbrev pub name_length : EntryValue → ℕ
name_length entry = length entry.name

-- how many bytes the names of a DIR_INDEX item have
abbrev pub name_lengths : List ℕ → ℕ
name_lengths bytes = sum_by name_length (read_list (entries_of dir_index bytes))

abbrev pub index_bytes : Item → ℕ
index_bytes item = name_lengths item.1

-- what is left of a number without another one, where it isn't less
abbrev pub IsLeft : Option ℕ → ℕ → ℕ → Type 0
IsLeft (Some rest) left amount = rest + amount ≡ left
IsLeft None left amount = left < amount

abbrev pub links_in : Links → ℕ → ℕ
links_in links ino = unwrap_or (get nat_cmp links.counts ino) 0
