-- What the code holds, as the definitions have it.
use Rattle.std.specs.Prelude.{◌≡◌, ◌+◌, ◌++◌, ◌==◌, ◌∷◌, ℕ, List, [], filter, length, map, not, reverse, vec_len, Result, Ok, Err}
use Rattle.std.specs.Borrow.{Bor}
use Rattle.std.specs.BTreeSet.{keys}
use Rattle.foreign_format.specs.declared.fault.ForeignFault.{ForeignFault}
use Rattle.foreign_format.specs.declared.fault.ReadFault.{ReadFault}
use Rattle.foreign_format.specs.declared.fault.ReadFault.TheVariants.{Foreign, Disk, OutOfMemory}
use Rattle.foreign_format.specs.Items.{EntryValue}
use Rattle.foreign_items.specs.declared.rows.Name.{Name}
use Rattle.foreign_items.specs.declared.items.SubvolumeItems.{SubvolumeItems}
use Rattle.foreign_items.specs.Rows.{NameValue}
use Rattle.foreign_items.specs.View.{name_view}
use Rattle.foreign_tree.specs.Reached.{HasReached}
use Rattle.foreign_tree.specs.Tree.{was_reached}
use Rattle.foreign_listing.specs.declared.places.Place as code
use Rattle.foreign_listing.specs.declared.tree.Tree.{Tree}
use Rattle.foreign_listing.specs.declared.walk.Listed as code_listed
use Rattle.foreign_listing.specs.declared.walk.Walk.{Walk}
use Rattle.foreign_listing.specs.Lines.{TreeValue}
use Rattle.foreign_listing.specs.Names.{Place, in_byte_order, places_below, put_entry}
use Rattle.foreign_listing.specs.Walk.{Between, Listed, Visited}

abbrev pub entry_view : Name → EntryValue
entry_view name = record { to = name.to; kind = name.kind; name = name.bytes.items }

abbrev pub place_view : code.Place → Place
place_view place = record { path = place.path.items; to = place.to; kind = place.kind }

abbrev pub tree_value : Tree → TreeValue
tree_value tree = record { sub = tree.sub; inodes = tree.inodes.items; extents = tree.extents.items }

-- the places that are to be listed; the last one pushed is the next one
abbrev pub pending_view : List code.Place → List Place
pending_view places = map place_view (reverse places)

abbrev pub listed_view : code_listed.Listed → Listed
listed_view listed = record { text = listed.text.items; lines = listed.lines }

-- the tree has these items, those of each inode in the order that they have there
pub record IsTreeOf (sub : ℕ) (items : SubvolumeItems) (tree : Tree) : Type 0 where
  pub number : tree.sub ≡ sub
  pub inodes : (ino : ℕ) → filter (λ row. row.key.objectid == ino) tree.inodes.items ≡ filter (λ row. row.key.objectid == ino) items.inodes.items
  pub names : (dir : ℕ) → filter (λ row. row.key.objectid == dir) tree.names.items ≡ filter (λ row. row.key.objectid == dir) items.names.items
  pub extents : (ino : ℕ) → filter (λ row. row.key.objectid == ino) tree.extents.items ≡ filter (λ row. row.key.objectid == ino) items.extents.items
  pub count : vec_len tree.names ≡ vec_len items.names

-- entries among those so far, each behind those whose names aren't above its own
abbrev pub put_entries : List EntryValue → List EntryValue → List EntryValue
put_entries before [] = before
put_entries before (entry ∷ entries) = put_entries (put_entry entry before) entries

abbrev pub entries_view : List (Bor Name) → List EntryValue
entries_view names = map (λ name. entry_view name.now) names

-- the rows of other directories than those that were reached
abbrev pub left_of : List ℕ → List NameValue → List NameValue
left_of reached rows = filter (λ row. not (was_reached row.key.objectid reached)) rows

-- what a walk over these rows of names holds between two names
pub record IsBetween (rows : List NameValue) (walk : Walk) (between : Between) : Type 0 where
  pub listed : listed_view walk.listed ≡ between.listed
  pub reached : HasReached walk.reached between.reached
  pub rows_left : left_of between.reached rows ≡ between.rows

-- how many places and rows of names a walk has still before it
abbrev pub left_of_walk : Tree → Walk → ℕ
left_of_walk tree walk = vec_len walk.pending + length (left_of (keys walk.reached.addresses) (map name_view tree.names.items))

-- The names of a directory with this path and these rows are the next ones, in the order of their bytes, or the fault is their
-- first. Where there is no memory, nothing is said.
abbrev pub HasNames : List ℕ → List NameValue → Walk → Walk → Result (Unit {0}) ReadFault → Type 0
HasNames path rows old new (Ok _) =
    (entries : List EntryValue) × (in_byte_order [] rows ≡ Ok entries)
    × (pending_view new.pending.items ≡ places_below path entries ++ pending_view old.pending.items)
HasNames path rows old new (Err (Foreign fault)) = in_byte_order [] rows ≡ Err fault
HasNames path rows old new (Err Disk) = Unit {0}
HasNames path rows old new (Err OutOfMemory) = Unit {0}

-- The answer is the defined one: the walk over these rows of names stands behind the place, with the places below it in front of
-- the others, or the fault is the first. Where the disk failed, or memory, nothing is said.
abbrev pub IsVisited : List NameValue → Walk → Walk → Result (Unit {0}) ReadFault → Result Visited ForeignFault → Type 0
IsVisited rows old new (Ok _) defined =
    (after : Visited) × (defined ≡ Ok after) × IsBetween rows new after.between
    × (pending_view new.pending.items ≡ after.below ++ pending_view old.pending.items)
IsVisited rows old new (Err (Foreign fault)) defined = defined ≡ Err fault
IsVisited rows old new (Err Disk) defined = Unit {0}
IsVisited rows old new (Err OutOfMemory) defined = Unit {0}
