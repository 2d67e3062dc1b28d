-- The items of a log without a directory's listing are those of the log without it.
use Rattle.std.proofs.Common.{◌≡◌, ◌&&◌, ◌||◌, ◌∙◌, ℕ, Bool, true, false, not, cond, List, [], ◌∷◌, Contains, Option, Some, None, nat_eq, filter, flat_map, map, refl, sym, ap, subst}
use Rattle.std.proofs.lemmas.Bool.{and_parts, eqb-true, false_from_ne_true, true≢false}
use Rattle.blk_base.specs.Entries.{entries_of}
use Rattle.blk_base.specs.Items.{InodeValue, range_of}
use Rattle.blk_base.specs.Keys.{inode_item, inode_ref, inode_extref, xattr_item, dir_index, dir_log_index, extent_data}
use Rattle.blk_base.specs.Leaf.{Item}
use Rattle.cow_tree.proofs.Items.{rise_filter}
use Rattle.flat_model.specs.Names.{FlatName, name_set, stands_in}
use Rattle.flat_model.proofs.Lists.{filter_empties, filter_keeps}
use Rattle.logged_volume.specs.FlatLog.{AreDistinct, LogEntry, LogRange}
use Rattle.volume_image.specs.Subvolume.{Data, data_addresses, item_addresses}
use Rattle.volume_image.proofs.Members.{in_filter, in_map}
use Rattle.log_image.specs.LogItems.{HasItsExtents, read_or, is_at, inode_in, extent_in_item, pairs_in_item, value_of_item, whole_said, existing_said, names_in_item, names_in, ranges_in_item, logged_entry, entries_in_item}
use Rattle.log_image.proofs.OneLog.{at_gives}
use Rattle.dir_ranges.specs.Listing.{DropsAListing, is_listing_kind, is_listing_of, items_without_listing}
use Rattle.dir_ranges.proofs.Kept.{filter_kept, find_kept, flat_map_kept, flat_map_others}

-- ---- what an item of a listing says

listing_is : (dir : ℕ) (item : Item) → is_listing_of dir item ≡ true → is_listing_kind item.0.kind ≡ true
listing_is dir item e = (and_parts (nat_eq item.0.objectid dir) (is_listing_kind item.0.kind) e).1

other_kind : (dir kind : ℕ) (item : Item) → is_listing_of dir item ≡ true → is_listing_kind kind ≡ false → nat_eq item.0.kind kind ≡ false
other_kind dir kind item e apart =
    false_from_ne_true (nat_eq item.0.kind kind) (λ same. true≢false (sym (listing_is dir item e) ∙ ap is_listing_kind (eqb-true item.0.kind kind same) ∙ apart))

no_names : (dir : ℕ) (item : Item) → is_listing_of dir item ≡ true → names_in_item item ≡ []
no_names dir item e = rw (other_kind dir inode_ref item e refl, other_kind dir inode_extref item e refl) refl

no_addresses : (dir : ℕ) (item : Item) → is_listing_of dir item ≡ true → item_addresses item ≡ []
no_addresses dir item e = rw (other_kind dir extent_data item e refl) refl

-- an item of another kind isn't of a listing
at_apart : (dir ino kind : ℕ) → is_listing_kind kind ≡ false → (item : Item) → is_at ino kind item ≡ true → is_listing_of dir item ≡ false
at_apart dir ino kind apart item at =
    false_from_ne_true (is_listing_of dir item) (λ e. true≢false (sym (listing_is dir item e) ∙ ap is_listing_kind (at_gives ino kind item at).1 ∙ apart))

and_true : (a : Bool) → (a && true) ≡ a
and_true true = refl
and_true false = refl

or_true : (a : Bool) → (a || true) ≡ true
or_true true = refl
or_true false = refl

listing_of_kind : (dir : ℕ) (item : Item) → is_listing_kind item.0.kind ≡ true → is_listing_of dir item ≡ nat_eq item.0.objectid dir
listing_of_kind dir item e = ap (λ (b : Bool). nat_eq item.0.objectid dir && b) e ∙ and_true (nat_eq item.0.objectid dir)

abbrev nothing : {X : Type 0} → List X
nothing = []

nothing_left : {X : Type 0} (b : Bool) → nothing {X = X} ≡ cond b nothing nothing
nothing_left true = refl
nothing_left false = refl

ranges_kept : (dir : ℕ) (item : Item) → filter (λ (range : LogRange). not (nat_eq range.dir dir)) (ranges_in_item item) ≡ cond (is_listing_of dir item) [] (ranges_in_item item)
ranges_kept dir item = go (nat_eq item.0.kind dir_log_index) refl
  where
    range : LogRange
    range = record { dir = item.0.objectid; first = item.0.offset; last = read_or 0 (range_of item.1) }

    one : (b : Bool) → cond (not b) (range ∷ []) [] ≡ cond b [] (range ∷ [])
    one true = refl
    one false = refl

    go : (a : Bool) → nat_eq item.0.kind dir_log_index ≡ a → filter (λ (r : LogRange). not (nat_eq r.dir dir)) (cond a (range ∷ []) []) ≡ cond (is_listing_of dir item) [] (cond a (range ∷ []) [])
    go true e = one (nat_eq item.0.objectid dir) ∙ ap (λ (c : Bool). cond c [] (range ∷ [])) (sym (listing_of_kind dir item (ap (λ (b : Bool). b || nat_eq item.0.kind dir_index) e)))
    go false e = nothing_left (is_listing_of dir item)

entries_kept : (dir : ℕ) (item : Item) → filter (λ (entry : LogEntry). not (nat_eq entry.dir dir)) (entries_in_item item) ≡ cond (is_listing_of dir item) [] (entries_in_item item)
entries_kept dir item = go (nat_eq item.0.kind dir_index) refl
  where
    said : List LogEntry
    said = map (logged_entry item.0) (read_or [] (entries_of dir_index item.1))

    own : (entry : LogEntry) → Contains said entry → item.0.objectid ≡ entry.dir
    own entry c = let found = in_map (logged_entry item.0) (read_or [] (entries_of dir_index item.1)) entry c in ap (λ (e : LogEntry). e.dir) found.2

    all : (b : Bool) → nat_eq item.0.objectid dir ≡ b → filter (λ (entry : LogEntry). not (nat_eq entry.dir dir)) said ≡ cond b [] said
    all true e = filter_empties (λ (entry : LogEntry). not (nat_eq entry.dir dir)) said (λ entry c. ap not (ap (λ (d : ℕ). nat_eq d dir) (sym (own entry c)) ∙ e))
    all false e = filter_keeps (λ (entry : LogEntry). not (nat_eq entry.dir dir)) said (λ entry c. ap not (ap (λ (d : ℕ). nat_eq d dir) (sym (own entry c)) ∙ e))

    go : (a : Bool) → nat_eq item.0.kind dir_index ≡ a → filter (λ (entry : LogEntry). not (nat_eq entry.dir dir)) (cond a said []) ≡ cond (is_listing_of dir item) [] (cond a said [])
    go true e =
        all (nat_eq item.0.objectid dir) refl
        ∙ ap (λ (c : Bool). cond c [] said) (sym (listing_of_kind dir item (ap (λ (b : Bool). nat_eq item.0.kind dir_log_index || b) e ∙ or_true (nat_eq item.0.kind dir_log_index))))
    go false e = nothing_left (is_listing_of dir item)

-- ---- the log

module _ (items : List Item) (dir : ℕ) where
  abbrev kept : List Item
  kept = items_without_listing dir items

  in_kept : (item : Item) → Contains kept item → Contains items item
  in_kept item c = (in_filter (λ (x : Item). not (is_listing_of dir x)) items item c).0

  inode_same : (ino : ℕ) → inode_in kept ino ≡ inode_in items ino
  inode_same ino = ap value_of_item (find_kept (is_at ino inode_item) (is_listing_of dir) items (at_apart dir ino inode_item refl))

  at_same : (ino kind : ℕ) → is_listing_kind kind ≡ false → filter (is_at ino kind) kept ≡ filter (is_at ino kind) items
  at_same ino kind apart = filter_kept (is_at ino kind) (is_listing_of dir) items (at_apart dir ino kind apart)

  names_same : names_in kept ≡ names_in items
  names_same = flat_map_others names_in_item (is_listing_of dir) items (no_names dir)

  addresses_same : data_addresses kept ≡ data_addresses items
  addresses_same = flat_map_others item_addresses (is_listing_of dir) items (no_addresses dir)

  whole_same : (blocks : Data) (ino : ℕ) (value : Option InodeValue) → whole_said kept blocks ino value ≡ whole_said items blocks ino value
  whole_same blocks ino None = refl
  whole_same blocks ino (Some value) = rw (at_same ino xattr_item refl, at_same ino extent_data refl) refl

  existing_same : (ino : ℕ) (value : Option InodeValue) → existing_said kept ino value ≡ existing_said items ino value
  existing_same ino None = refl
  existing_same ino (Some value) = rw (at_same ino extent_data refl) refl

pub drops_a_listing : DropsAListing
drops_a_listing items blocks log dir h = record {
  rise = rise_filter (λ (item : Item). not (is_listing_of dir item)) items h.rise;
  only = λ key bytes c. h.only key bytes (in_kept items dir (key, bytes) c);
  has_inode = λ key bytes c asks. let said = h.has_inode key bytes (in_kept items dir (key, bytes) c) asks in (said.0, inode_same items dir key.objectid ∙ said.1);
  extents = λ ino value is. subst (λ (l : List Item). HasItsExtents value (map extent_in_item l)) (sym (at_same items dir ino extent_data refl)) (h.extents ino value (sym (inode_same items dir ino) ∙ is));
  bare = λ ino value is bare. ap (λ (l : List Item). flat_map pairs_in_item l) (at_same items dir ino xattr_item refl) ∙ h.bare ino value (sym (inode_same items dir ino) ∙ is) bare;
  apart = λ ino one two c d. h.apart ino one two (in_kept items dir one c) (in_kept items dir two d);
  blocks_there = λ at c. h.blocks_there at (subst (λ (l : List ℕ). Contains l at) (addresses_same items dir) c);
  once = λ in_dir. subst (λ (l : List FlatName). AreDistinct (filter (stands_in in_dir) l)) (sym (names_same items dir)) (h.once in_dir);
  whole = λ ino. h.whole ino ∙ sym (whole_same items dir blocks ino (inode_in items ino)) ∙ ap (whole_said (items_without_listing dir items) blocks ino) (sym (inode_same items dir ino));
  existing = λ ino. h.existing ino ∙ sym (existing_same items dir ino (inode_in items ino)) ∙ ap (existing_said (items_without_listing dir items) ino) (sym (inode_same items dir ino));
  names = h.names ∙ ap name_set (sym (names_same items dir));
  ranges = ap (filter (λ (range : LogRange). not (nat_eq range.dir dir))) h.ranges ∙ flat_map_kept ranges_in_item (is_listing_of dir) (λ (range : LogRange). not (nat_eq range.dir dir)) items (ranges_kept dir);
  entries = ap (filter (λ (entry : LogEntry). not (nat_eq entry.dir dir))) h.entries ∙ flat_map_kept entries_in_item (is_listing_of dir) (λ (entry : LogEntry). not (nat_eq entry.dir dir)) items (entries_kept dir);
}
