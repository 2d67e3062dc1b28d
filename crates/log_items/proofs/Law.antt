-- The items of a log that say nothing of an inode are those of the log without it.
use Rattle.std.proofs.Common.{◌≡◌, ◌≢◌, ◌&&◌, ◌||◌, ◌∙◌, ℕ, Bool, true, false, not, cond, List, [], ◌∷◌, Contains, Option, Some, None, Result, Ok, nat_eq, filter, flat_map, map, length, refl, sym, ap, subst, inl, inr, arith}
use Rattle.std.specs.List.{list_any}
use Rattle.std.specs.FinMap.{get, remove}
use Rattle.std.proofs.lemmas.Bool.{cases_Bool, false_from_ne_true, eqb-true, eq-eqb, true≢false}
use Rattle.blk_base.specs.declared.key.Key.{Key}
use Rattle.blk_base.specs.declared.fault.ItemFault.{ItemFault}
use Rattle.blk_base.specs.Keys.{inode_item, inode_ref, inode_extref, xattr_item, dir_index, dir_log_index, extent_data}
use Rattle.blk_base.specs.Leaf.{Item}
use Rattle.blk_base.specs.Items.{InodeValue}
use Rattle.blk_base.specs.Entries.{RefValue, ExtRefValue, EntryValue, IsEntries, entries_of, refs_of, extrefs_of}
use Rattle.item_laws.specs.Directories.{entries_to}
use Rattle.cow_tree.proofs.Items.{rise_filter}
use Rattle.flat_model.specs.Names.{FlatName, leads_to, name_set, stands_in}
use Rattle.flat_model.proofs.Lists.{filter_keeps, filter_empties, filter_swaps}
use Rattle.flat_model.proofs.Maps.{get_remove_same, get_remove_other}
use Rattle.logged_volume.specs.FlatLog.{LogRange, LogEntry, FlatLog, AreDistinct}
use Rattle.logged_volume.proofs.Counts.{distinct_filter}
use Rattle.volume_image.specs.Subvolume.{Data, item_addresses}
use Rattle.volume_image.proofs.Members.{in_filter, in_map, flat_map_in}
use Rattle.log_image.specs.LogItems.{AreItemsOfLog, HasItsExtents, read_or, is_at, inode_in, extent_in_item, pairs_in_item, value_of_item, whole_said, existing_said, near_name, far_name, names_in_item, names_in, ranges_in_item, logged_entry, entries_in_item}
use Rattle.log_image.proofs.OneLog.{at_gives}
use Rattle.log_image.proofs.Sayings.{in_flat_map}
use Rattle.log_items.specs.Forgotten.{is_entry_with, forgotten, is_item_of, items_without}
use Rattle.log_items.proofs.Kept.{flat_map_kept, find_kept, find_gone, filter_kept, filter_name_set}

-- ---- which items say nothing of the inode

differs : (ino other : ℕ) → other ≢ ino → nat_eq other ino ≡ false
differs ino other apart = false_from_ne_true (nat_eq other ino) (λ e. apart (eqb-true other ino e))

-- an item of another inode that isn't an entry
other_kept : (ino other kind : ℕ) → other ≢ ino → nat_eq kind dir_index ≡ false → (item : Item) → is_at other kind item ≡ true → is_item_of ino item ≡ false
other_kept ino other kind apart not_index item h =
    let at = at_gives other kind item h in
    let one : nat_eq item.0.objectid ino ≡ false = ap (λ (n : ℕ). nat_eq n ino) at.0 ∙ differs ino other apart in
    let two : nat_eq item.0.kind dir_index ≡ false = ap (λ (n : ℕ). nat_eq n dir_index) at.1 ∙ not_index in
    rw (one, two) refl

own_gone : (ino kind : ℕ) (item : Item) → is_at ino kind item ≡ true → is_item_of ino item ≡ true
own_gone ino kind item h = let at = at_gives ino kind item h in rw (eq-eqb item.0.objectid ino at.0) refl

-- an item that is left isn't of the inode
left_is_other : (ino : ℕ) (item : Item) → not (is_item_of ino item) ≡ true → item.0.objectid ≢ ino
left_is_other ino item left e =
    let own : is_item_of ino item ≡ true = rw (eq-eqb item.0.objectid ino e) refl in
    true≢false (sym left ∙ ap not own)

-- ---- what the items left say of another inode

module _ (items : List Item) (ino : ℕ) where
  abbrev kept : List Item
  kept = items_without ino items

  in_kept : (item : Item) → Contains kept item → Contains items item × (not (is_item_of ino item) ≡ true)
  in_kept item c = in_filter (λ (x : Item). not (is_item_of ino x)) items item c

  pub inode_same : (other : ℕ) → other ≢ ino → inode_in kept other ≡ inode_in items other
  inode_same other apart = ap value_of_item (find_kept (is_at other inode_item) (is_item_of ino) items (other_kept ino other inode_item apart refl))

  pub inode_gone : inode_in kept ino ≡ None
  inode_gone = ap value_of_item (find_gone (is_at ino inode_item) (is_item_of ino) items (own_gone ino inode_item))

  attributes_same : (other : ℕ) → other ≢ ino → filter (is_at other xattr_item) kept ≡ filter (is_at other xattr_item) items
  attributes_same other apart = filter_kept (is_at other xattr_item) (is_item_of ino) items (other_kept ino other xattr_item apart refl)

  extents_same : (other : ℕ) → other ≢ ino → filter (is_at other extent_data) kept ≡ filter (is_at other extent_data) items
  extents_same other apart = filter_kept (is_at other extent_data) (is_item_of ino) items (other_kept ino other extent_data apart refl)

  whole_same : (blocks : Data) (other : ℕ) → other ≢ ino → (value : Option InodeValue) → whole_said kept blocks other value ≡ whole_said items blocks other value
  whole_same blocks other apart None = refl
  whole_same blocks other apart (Some value) = rw (attributes_same other apart, extents_same other apart) refl

  existing_same : (other : ℕ) → other ≢ ino → (value : Option InodeValue) → existing_said kept other value ≡ existing_said items other value
  existing_same other apart None = refl
  existing_same other apart (Some value) = rw (extents_same other apart) refl

-- ---- names

-- the names of an item are its inode's
names_are_own : (ino : ℕ) (b : Bool) (names : List FlatName) → ((name : FlatName) → Contains names name → leads_to ino name ≡ b) → filter (λ name. not (leads_to ino name)) names ≡ cond b [] names
names_are_own ino true names own = filter_empties (λ name. not (leads_to ino name)) names (λ name c. ap not (own name c))
names_are_own ino false names own = filter_keeps (λ name. not (leads_to ino name)) names (λ name c. ap not (own name c))

near_own : (ino : ℕ) (key : Key) (refs : List RefValue) (name : FlatName) → Contains (map (near_name key) refs) name → leads_to ino name ≡ nat_eq key.objectid ino
near_own ino key refs name c = let found = in_map (near_name key) refs name c in ap (λ (n : FlatName). leads_to ino n) (sym found.2)

far_own : (ino : ℕ) (key : Key) (refs : List ExtRefValue) (name : FlatName) → Contains (map (far_name key) refs) name → leads_to ino name ≡ nat_eq key.objectid ino
far_own ino key refs name c = let found = in_map (far_name key) refs name c in ap (λ (n : FlatName). leads_to ino n) (sym found.2)

-- an item that isn't an entry says something of its own inode alone
not_an_entry : (ino : ℕ) (item : Item) → nat_eq item.0.kind dir_index ≡ false → is_item_of ino item ≡ nat_eq item.0.objectid ino
not_an_entry ino item not_index = ap (λ (b : Bool). nat_eq item.0.objectid ino || (b && list_any (λ (entry : EntryValue). nat_eq entry.target.objectid ino) (read_or [] (entries_of dir_index item.1)))) not_index ∙ or_false (nat_eq item.0.objectid ino)
  where
    or_false : (b : Bool) → (b || false) ≡ b
    or_false true = refl
    or_false false = refl

abbrev no_more : {X : Type 0} → List X
no_more = []

nothing_left : {X : Type 0} (b : Bool) → no_more {X = X} ≡ cond b no_more no_more
nothing_left true = refl
nothing_left false = refl

names_kept : (ino : ℕ) (item : Item) → filter (λ name. not (leads_to ino name)) (names_in_item item) ≡ cond (is_item_of ino item) [] (names_in_item item)
names_kept ino item = go (nat_eq item.0.kind inode_ref) refl (nat_eq item.0.kind inode_extref) refl
  where
    near : List FlatName
    near = map (near_name item.0) (read_or [] (refs_of item.0 item.1))

    far : List FlatName
    far = map (far_name item.0) (read_or [] (extrefs_of item.1))

    apart : (kind : ℕ) → nat_eq item.0.kind kind ≡ true → nat_eq kind dir_index ≡ false → is_item_of ino item ≡ nat_eq item.0.objectid ino
    apart kind is other = not_an_entry ino item (ap (λ (n : ℕ). nat_eq n dir_index) (eqb-true item.0.kind kind is) ∙ other)

    go : (a : Bool) → nat_eq item.0.kind inode_ref ≡ a → (b : Bool) → nat_eq item.0.kind inode_extref ≡ b
        → filter (λ name. not (leads_to ino name)) (cond a near (cond b far [])) ≡ cond (is_item_of ino item) [] (cond a near (cond b far []))
    go true ea b eb =
        names_are_own ino (nat_eq item.0.objectid ino) near (near_own ino item.0 (read_or [] (refs_of item.0 item.1)))
        ∙ ap (λ (c : Bool). cond c [] near) (sym (apart inode_ref ea refl))
    go false ea true eb =
        names_are_own ino (nat_eq item.0.objectid ino) far (far_own ino item.0 (read_or [] (extrefs_of item.1)))
        ∙ ap (λ (c : Bool). cond c [] far) (sym (apart inode_extref eb refl))
    go false ea false eb = nothing_left (is_item_of ino item)

-- ---- ranges

ranges_kept : (ino : ℕ) (item : Item) → filter (λ (range : LogRange). not (nat_eq range.dir ino)) (ranges_in_item item) ≡ cond (is_item_of ino item) [] (ranges_in_item item)
ranges_kept ino item = go (nat_eq item.0.kind dir_log_index) refl
  where
    range : LogRange
    range = record { dir = item.0.objectid; first = item.0.offset; last = read_or 0 (Rattle.blk_base.specs.Items.range_of item.1) }

    one : (b : Bool) → cond (not b) (range ∷ []) [] ≡ cond b [] (range ∷ [])
    one true = refl
    one false = refl

    go : (a : Bool) → nat_eq item.0.kind dir_log_index ≡ a → filter (λ (range : LogRange). not (nat_eq range.dir ino)) (cond a (range ∷ []) []) ≡ cond (is_item_of ino item) [] (cond a (range ∷ []) [])
    go true ea = one (nat_eq item.0.objectid ino) ∙ ap (λ (c : Bool). cond c [] (range ∷ [])) (sym (not_an_entry ino item (ap (λ (n : ℕ). nat_eq n dir_index) (eqb-true item.0.kind dir_log_index ea))))
    go false ea = nothing_left (is_item_of ino item)

-- ---- entries

entries_kept : (ino : ℕ) (item : Item) → ((entries : List EntryValue) → nat_eq item.0.kind dir_index ≡ true → read_or [] (entries_of dir_index item.1) ≡ entries → length entries ≡ 1)
    → filter (λ entry. not (is_entry_with ino entry)) (entries_in_item item) ≡ cond (is_item_of ino item) [] (entries_in_item item)
entries_kept ino item single = go (nat_eq item.0.kind dir_index) refl (read_or [] (entries_of dir_index item.1)) refl
  where
    one : (b : Bool) (entry : LogEntry) → cond (not b) (entry ∷ []) [] ≡ cond b [] (entry ∷ [])
    one true entry = refl
    one false entry = refl

    or_false : (b : Bool) → (b || false) ≡ b
    or_false true = refl
    or_false false = refl

    alone : (entries : List EntryValue) → length entries ≡ 1
        → filter (λ entry. not (is_entry_with ino entry)) (map (logged_entry item.0) entries)
        ≡ cond (nat_eq item.0.objectid ino || list_any (λ (entry : EntryValue). nat_eq entry.target.objectid ino) entries) [] (map (logged_entry item.0) entries)
    alone [] e = absurd (omega arith)
    alone (x ∷ []) e = one (nat_eq item.0.objectid ino || nat_eq x.target.objectid ino) (logged_entry item.0 x)
        ∙ ap (λ (b : Bool). cond (nat_eq item.0.objectid ino || b) [] (logged_entry item.0 x ∷ [])) (sym (or_false (nat_eq x.target.objectid ino)))
    alone (x ∷ y ∷ rest) e = absurd (omega arith)

    go : (a : Bool) → nat_eq item.0.kind dir_index ≡ a → (entries : List EntryValue) → read_or [] (entries_of dir_index item.1) ≡ entries
        → filter (λ entry. not (is_entry_with ino entry)) (cond a (map (logged_entry item.0) entries) [])
        ≡ cond (nat_eq item.0.objectid ino || (a && list_any (λ (entry : EntryValue). nat_eq entry.target.objectid ino) entries)) [] (cond a (map (logged_entry item.0) entries) [])
    go true ea entries is = alone entries (single entries ea is)
    go false ea entries is = nothing_left (nat_eq item.0.objectid ino || false)

-- ---- the log

-- an item of entries in a log has one
entry_is_single : (items : List Item) (blocks : Data) (log : FlatLog) → AreItemsOfLog items blocks log → (item : Item) → Contains items item
    → (entries : List EntryValue) → nat_eq item.0.kind dir_index ≡ true → read_or [] (entries_of dir_index item.1) ≡ entries → length entries ≡ 1
entry_is_single items blocks log h item c entries index is =
    let kind : item.0.kind ≡ dir_index = eqb-true item.0.kind dir_index index in
    let spelled = (h.only item.0 item.1 c).spelled.entries (inr (inl kind)) in
    let read : entries_of dir_index item.1 ≡ Ok spelled.0 = entries_to dir_index item.1 spelled.0 (subst (λ (k : ℕ). IsEntries k item.1 spelled.0) kind spelled.1) in
    let same : spelled.0 ≡ entries = sym (ap (λ (r : Result (List EntryValue) ItemFault). read_or [] r) read) ∙ is in
    ap (λ (l : List EntryValue). length l) (sym same) ∙ spelled.1.single kind

pub forgets : (items : List Item) (blocks : Data) (log : FlatLog) (ino : ℕ) → AreItemsOfLog items blocks log → AreItemsOfLog (items_without ino items) blocks (forgotten ino log)
forgets items blocks log ino h = record {
  rise = rise_filter (λ (item : Item). not (is_item_of ino item)) items h.rise;
  only = λ key bytes c. h.only key bytes (in_kept items ino (key, bytes) c).0;
  has_inode = λ key bytes c asks.
      let there = in_kept items ino (key, bytes) c in
      let said = h.has_inode key bytes there.0 asks in
      (said.0, inode_same items ino key.objectid (left_is_other ino (key, bytes) there.1) ∙ said.1);
  extents = λ other value is. elim (cases_Bool (nat_eq other ino)) [
    | inl same ↦ absurd (gone other value is (eqb-true other ino same))
    | inr apart ↦
        let o = not_same other apart in
        subst (λ (l : List Item). HasItsExtents value (map extent_in_item l)) (sym (extents_same items ino other o)) (h.extents other value (sym (inode_same items ino other o) ∙ is))
  ];
  bare = λ other value is bare. elim (cases_Bool (nat_eq other ino)) [
    | inl same ↦ absurd (gone other value is (eqb-true other ino same))
    | inr apart ↦
        let o = not_same other apart in
        ap (λ (l : List Item). flat_map pairs_in_item l) (attributes_same items ino other o) ∙ h.bare other value (sym (inode_same items ino other o) ∙ is) bare
  ];
  apart = λ other one two c d. h.apart other one two (in_kept items ino one c).0 (in_kept items ino two d).0;
  blocks_there = λ at c.
      let found = in_flat_map item_addresses (items_without ino items) at c in
      h.blocks_there at (flat_map_in item_addresses items found.0 at (in_kept items ino found.0 found.1).0 found.2);
  once = λ dir. subst AreDistinct (filter_swaps (λ name. not (leads_to ino name)) (stands_in dir) (names_in items) ∙ ap (filter (stands_in dir)) said_names) (distinct_filter (λ name. not (leads_to ino name)) (filter (stands_in dir) (names_in items)) (h.once dir));
  whole = λ other. elim (cases_Bool (nat_eq other ino)) [
    | inl same ↦
        let e = eqb-true other ino same in
        ap (λ (n : ℕ). get (remove log.whole ino) n) e ∙ get_remove_same log.whole ino ∙ sym (ap (λ (n : ℕ). whole_said (items_without ino items) blocks n (inode_in (items_without ino items) n)) e ∙ ap (whole_said (items_without ino items) blocks ino) (inode_gone items ino))
    | inr apart ↦
        let o = not_same other apart in
        get_remove_other log.whole ino other o ∙ h.whole other ∙ sym (whole_same items ino blocks other o (inode_in items other)) ∙ ap (whole_said (items_without ino items) blocks other) (sym (inode_same items ino other o))
  ];
  existing = λ other. elim (cases_Bool (nat_eq other ino)) [
    | inl same ↦
        let e = eqb-true other ino same in
        ap (λ (n : ℕ). get (remove log.existing ino) n) e ∙ get_remove_same log.existing ino ∙ sym (ap (λ (n : ℕ). existing_said (items_without ino items) n (inode_in (items_without ino items) n)) e ∙ ap (existing_said (items_without ino items) ino) (inode_gone items ino))
    | inr apart ↦
        let o = not_same other apart in
        get_remove_other log.existing ino other o ∙ h.existing other ∙ sym (existing_same items ino other o (inode_in items other)) ∙ ap (existing_said (items_without ino items) other) (sym (inode_same items ino other o))
  ];
  names = ap (filter (λ name. not (leads_to ino name))) h.names ∙ filter_name_set (λ name. not (leads_to ino name)) (names_in items) ∙ ap name_set said_names;
  ranges = ap (filter (λ (range : LogRange). not (nat_eq range.dir ino))) h.ranges ∙ flat_map_kept ranges_in_item (is_item_of ino) (λ (range : LogRange). not (nat_eq range.dir ino)) items (λ item c. ranges_kept ino item);
  entries = ap (filter (λ entry. not (is_entry_with ino entry))) h.entries ∙ flat_map_kept entries_in_item (is_item_of ino) (λ entry. not (is_entry_with ino entry)) items (λ item c. entries_kept ino item (entry_is_single items blocks log h item c));
}
  where
    not_same : (other : ℕ) → nat_eq other ino ≡ false → other ≢ ino
    not_same other apart e = true≢false (sym (eq-eqb other ino e) ∙ apart)

    gone : (other : ℕ) (value : InodeValue) → inode_in (items_without ino items) other ≡ Some value → other ≡ ino → ⊥
    gone other value is e = let wrong : None ≡ Some value = sym (inode_gone items ino) ∙ ap (inode_in (items_without ino items)) (sym e) ∙ is in absurd cc

    said_names : filter (λ name. not (leads_to ino name)) (names_in items) ≡ names_in (items_without ino items)
    said_names = flat_map_kept names_in_item (is_item_of ino) (λ name. not (leads_to ino name)) items (λ item c. names_kept ino item)
