-- The items of a log with a subvolume's names of an inode are those of the log with them.
use Rattle.std.proofs.Common.{◌≡◌, ◌≢◌, ◌≤◌, ◌<◌, ◌&&◌, ◌∙◌, ◌⊎◌, ◌++◌, ℕ, Bool, true, false, not, cond, List, [], ◌∷◌, Contains, Option, Some, None, nat_eq, if◌then◌else◌, filter, find, flat_map, map, refl, sym, ap, subst, inl, inr, arith}
use Rattle.std.specs.FinMap.{get}
use Rattle.std.specs.Option.{option_or}
use Rattle.std.proofs.lemmas.Bool.{eq-eqb, eqb-true, false_from_ne_true, true≢false}
use Rattle.std.proofs.lemmas.Grind.{flat_map-append}
use Rattle.std.proofs.lemmas.List.Elements.{Contains-append_cases, Contains-append_left, Contains-append_right, filter-append}
use Rattle.std.proofs.lemmas.List.Folds.{find-append}
use Rattle.blk_base.specs.declared.key.Key.{Key}
use Rattle.blk_base.specs.Crc.{extref_hash_of}
use Rattle.blk_base.specs.Items.{InodeValue}
use Rattle.blk_base.specs.ItemFaults.{IsLogSpelled, IsSpelled, is_log_kind}
use Rattle.blk_base.specs.Keys.{KeyFits, extent_data, inode_extref, inode_item, inode_ref, key_below, xattr_item}
use Rattle.blk_base.specs.Leaf.{Item}
use Rattle.blk_base.specs.Trees.{ItemsRise}
use Rattle.cow_tree.proofs.Items.{lower, rise_filter, upper}
use Rattle.flat_model.specs.Coherent.{IsCoherent}
use Rattle.flat_model.specs.Names.{FlatName, add_name, leads_to, name_set, stands_in}
use Rattle.flat_model.specs.Volume.{Subvolume}
use Rattle.flat_model.proofs.Lists.{filter_empties, filter_keeps, filter_swaps}
use Rattle.flat_model.proofs.NameSets.{add_name_cases, add_name_has, add_name_keeps, same_name_set}
use Rattle.leaf_view.specs.KeyOrder.{KeyBelow_parts}
use Rattle.leaf_view.proofs.Rising.{key_below_means}
use Rattle.log_image.specs.LogItems.{AreItemsOfLog, HasItsExtents, IsLogItem, entries_in_item, existing_said, extent_in_item, inode_in, is_at, names_in, names_in_item, pairs_in_item, ranges_in_item, value_of_item, whole_said}
use Rattle.log_image.proofs.Sayings.{in_flat_map, named_by}
use Rattle.logged_volume.specs.FlatLog.{AreDistinct, FlatLog, is_logged}
use Rattle.logged_volume.proofs.Counts.{distinct_filter}
use Rattle.log_items.specs.Names.{first_name, items_with_names, last_name, names_to_log, renamed}
use Rattle.log_items.proofs.Copying.{between, not_below_means, not_true, three_parts}
use Rattle.log_items.proofs.Kept.{name_set_set}
use Rattle.log_items.proofs.Named.{in_order, logged_from}
use Rattle.log_items.proofs.Saying.{SaysItsNames, distinct_append, far_says, items_once, key_of_name, near_says}
use Rattle.tree_check.specs.Items.{HaveKeys}
use Rattle.tree_range.specs.Between.{items_from}
use Rattle.volume_image.specs.Subvolume.{AreItemsOf, Data, HasKey, extref_of, extrefs_asked, item_addresses, make_key, own_refs, ref_of, refs_asked}
use Rattle.volume_image.proofs.Lists.{in_cons}
use Rattle.volume_image.proofs.Members.{filter_in, flat_map_in, in_filter, map_in, not_empty}
use Rattle.volume_image.proofs.OwnKeys.{asked_is_spelled, has_its_key}
use Rattle.volume_image.proofs.Reaches.{head_in, tail_in}

-- ---- sets of names

name_set_gives : (names : List FlatName) (name : FlatName) → Contains (name_set names) name → Contains names name
name_set_gives [] name c = c
name_set_gives (x ∷ xs) name c = elim (add_name_cases x (name_set xs) name c) [
  | inl here ↦ subst (Contains (x ∷ xs)) here (head_in x xs)
  | inr there ↦ tail_in x name xs (name_set_gives xs name there)
]

name_set_has : (names : List FlatName) (name : FlatName) → Contains names name → Contains (name_set names) name
name_set_has [] name c = c
name_set_has (x ∷ xs) name c = elim (in_cons x name xs c) [
  | inl here ↦ subst (Contains (add_name x (name_set xs))) here (add_name_has x (name_set xs))
  | inr there ↦ add_name_keeps x (name_set xs) name (name_set_has xs name there)
]

distinct_insert : (xs ys zs : List FlatName) → AreDistinct (xs ++ zs) → AreDistinct ys → ((n : FlatName) → Contains ys n → Contains (xs ++ zs) n → ⊥) → AreDistinct (xs ++ (ys ++ zs))
distinct_insert [] ys zs d e apart = distinct_append ys zs e d apart
distinct_insert (x ∷ xs) ys zs d e apart = (
  (λ c. elim (Contains-append_cases xs (ys ++ zs) x c) [
    | inl front ↦ d.0 (Contains-append_left xs zs x front)
    | inr more ↦ elim (Contains-append_cases ys zs x more) [
      | inl new ↦ apart x new (head_in x (xs ++ zs))
      | inr back ↦ d.0 (Contains-append_right xs zs x back)
    ]
  ]),
  distinct_insert xs ys zs d.1 e (λ n new there. apart n new (tail_in x n (xs ++ zs) there)),
)

-- ---- items of names

abbrev IsNamesItem : Item → Type 0
IsNamesItem item = (item.0.kind ≡ inode_ref) ⊎ (item.0.kind ≡ inode_extref)

not_at : (other kind : ℕ) → nat_eq inode_ref kind ≡ false → nat_eq inode_extref kind ≡ false → (item : Item) → IsNamesItem item → is_at other kind item ≡ false
not_at other kind near far item (inl k) = ap (λ (b : Bool). nat_eq item.0.objectid other && b) (ap (λ (n : ℕ). nat_eq n kind) k ∙ near) ∙ and_false (nat_eq item.0.objectid other)
  where
    and_false : (b : Bool) → (b && false) ≡ false
    and_false true = refl
    and_false false = refl
not_at other kind near far item (inr k) = ap (λ (b : Bool). nat_eq item.0.objectid other && b) (ap (λ (n : ℕ). nat_eq n kind) k ∙ far) ∙ and_false (nat_eq item.0.objectid other)
  where
    and_false : (b : Bool) → (b && false) ≡ false
    and_false true = refl
    and_false false = refl

no_addresses : (item : Item) → IsNamesItem item → item_addresses item ≡ []
no_addresses item (inl k) = rw k refl
no_addresses item (inr k) = rw k refl

no_ranges : (item : Item) → IsNamesItem item → ranges_in_item item ≡ []
no_ranges item (inl k) = rw k refl
no_ranges item (inr k) = rw k refl

no_entries : (item : Item) → IsNamesItem item → entries_in_item item ≡ []
no_entries item (inl k) = rw k refl
no_entries item (inr k) = rw k refl

-- the key of an inode's names
record IsNameKey (ino : ℕ) (key : Key) : Type 0 where
  pub objectid : key.objectid ≡ ino
  pub kind : (key.kind ≡ inode_ref) ⊎ (key.kind ≡ inode_extref)

inside_is : (ino : ℕ) (key : Key) → key_below key (first_name ino) ≡ false → key_below (last_name ino) key ≡ false → IsNameKey ino key
inside_is ino key from to = record { objectid = grind (arith, low, high); kind = by_number (grind (arith, low, high)) (grind (arith, low, high)) }
  where
    low : (ino < key.objectid) ⊎ ((ino ≡ key.objectid) × (12 ≤ key.kind))
    low = elim (not_below_means key (first_name ino) from) [
      | inl same ↦ inr (ap (λ (k : Key). k.objectid) (sym same), omega (arith, ap (λ (k : Key). k.kind) same))
      | inr below ↦ let parts = KeyBelow_parts (first_name ino) key below in grind (arith, parts)
    ]

    high : (key.objectid < ino) ⊎ ((ino ≡ key.objectid) × (key.kind ≤ 13))
    high = elim (not_below_means (last_name ino) key to) [
      | inl same ↦ inr (ap (λ (k : Key). k.objectid) same, omega (arith, ap (λ (k : Key). k.kind) same))
      | inr below ↦ let parts = KeyBelow_parts key (last_name ino) below in grind (arith, parts)
    ]

    by_number : 12 ≤ key.kind → key.kind ≤ 13 → (key.kind ≡ inode_ref) ⊎ (key.kind ≡ inode_extref)
    by_number one two = grind (arith, one, two)

not_in_front : (ino : ℕ) (key : Key) → key_below key (first_name ino) ≡ true → IsNameKey ino key → ⊥
not_in_front ino key below is = let parts = KeyBelow_parts key (first_name ino) (key_below_means key (first_name ino) below) in grind (arith, parts, is.objectid, is.kind)

not_behind : (ino : ℕ) (key : Key) → KeyFits key → key_below (last_name ino) key ≡ true → IsNameKey ino key → ⊥
not_behind ino key fits above is = let parts = KeyBelow_parts (last_name ino) key (key_below_means (last_name ino) key above) in grind (arith, parts, is.objectid, is.kind, fits.offset)

name_ino : (name : FlatName) (b : Bool) → (cond b (make_key name.ino inode_ref name.dir) (make_key name.ino inode_extref (extref_hash_of name.dir name.bytes))).objectid ≡ name.ino
name_ino name true = refl
name_ino name false = refl

-- ---- other items stay

find_none : {X : Type 0} (p : X → Bool) (xs : List X) → ((x : X) → Contains xs x → p x ≡ false) → find p xs ≡ None
find_none p [] none = refl
find_none {X} p (x ∷ xs) none = ap (λ (b : Bool). cond b (Some x) (find p xs)) (none x (head_in x xs)) ∙ find_none p xs (λ y c. none y (tail_in x y xs c))

says_none : {X Y : Type 0} (f : X → List Y) (xs : List X) → ((x : X) → Contains xs x → f x ≡ []) → flat_map f xs ≡ []
says_none f [] none = refl
says_none {X} {Y} f (x ∷ xs) none = ap (λ (l : List Y). l ++ flat_map f xs) (none x (head_in x xs)) ∙ says_none f xs (λ y c. none y (tail_in x y xs c))

module _ {X : Type 0} (front middle back : List X) where
  pub filter_past : (p : X → Bool) → ((x : X) → Contains middle x → p x ≡ false) → filter p (front ++ (middle ++ back)) ≡ filter p front ++ filter p back
  filter_past p none =
      filter-append p front (middle ++ back)
      ∙ ap (λ (l : List X). filter p front ++ l) (filter-append p middle back ∙ ap (λ (l : List X). l ++ filter p back) (filter_empties p middle none))

  find_past : (p : X → Bool) → ((x : X) → Contains middle x → p x ≡ false) → find p (front ++ (middle ++ back)) ≡ find p (front ++ back)
  find_past p none =
      find-append p front (middle ++ back)
      ∙ ap (option_or (find p front)) (find-append p middle back ∙ ap (λ (o : Option X). option_or o (find p back)) (find_none p middle none))
      ∙ sym (find-append p front back)

  says_past : {Y : Type 0} (f : X → List Y) → ((x : X) → Contains middle x → f x ≡ []) → flat_map f (front ++ (middle ++ back)) ≡ flat_map f front ++ flat_map f back
  says_past {Y} f none =
      flat_map-append f front (middle ++ back)
      ∙ ap (λ (l : List Y). flat_map f front ++ l) (flat_map-append f middle back ∙ ap (λ (l : List Y). l ++ flat_map f back) (says_none f middle none))

-- ---- the log

module _ (ino : ℕ) (items current : List Item) (blocks theirs : Data) (log : FlatLog) (sub : Subvolume) (keys : HaveKeys items) (their_keys : HaveKeys current) (h : AreItemsOfLog items blocks log) (rise : ItemsRise current) (are : AreItemsOf current theirs sub) (coherent : IsCoherent sub) (logged : is_logged log ino ≡ true) where
  abbrev front : List Item
  front = lower (first_name ino) items

  abbrev back : List Item
  back = upper (last_name ino) items

  abbrev was : List Item
  was = between (first_name ino) (last_name ino) items

  abbrev now : List Item
  now = names_to_log ino current

  abbrev new : List Item
  new = items_with_names ino current items

  parts : items ≡ front ++ (was ++ back)
  parts = three_parts (first_name ino) (last_name ino) items (in_order ino) h.rise

  in_front : (item : Item) → Contains front item → Contains items item × (IsNameKey ino item.0 → ⊥)
  in_front item c = let found = in_filter (λ (x : Item). key_below x.0 (first_name ino)) items item c in (found.0, not_in_front ino item.0 found.1)

  in_back : (item : Item) → Contains back item → Contains items item × (IsNameKey ino item.0 → ⊥)
  in_back item c = let found = in_filter (λ (x : Item). key_below (last_name ino) x.0) items item c in (found.0, not_behind ino item.0 (keys item.0 item.1 found.0) found.1)

  in_between : (list : List Item) (item : Item) → Contains (between (first_name ino) (last_name ino) list) item → Contains list item × IsNameKey ino item.0
  in_between list item c =
      let to = in_filter (λ (x : Item). not (key_below (last_name ino) x.0)) (items_from (first_name ino) list) item c in
      let from = in_filter (λ (x : Item). not (key_below x.0 (first_name ino))) list item to.0 in
      (from.0, inside_is ino item.0 (not_true (key_below item.0 (first_name ino)) from.1) (not_true (key_below (last_name ino) item.0) to.1))

  was_names : (item : Item) → Contains was item → IsNamesItem item
  was_names item c = (in_between items item c).1.kind

  in_now : (item : Item) → Contains now item → Contains current item × IsNameKey ino item.0
  in_now item c = in_between current item (logged_from ino current item c).1

  now_names : (item : Item) → Contains now item → IsNamesItem item
  now_names item c = (in_now item c).1.kind

  -- an item that isn't of names stays
  same_filter : (p : Item → Bool) → ((item : Item) → IsNamesItem item → p item ≡ false) → filter p new ≡ filter p items
  same_filter p other =
      filter_past front now back p (λ item c. other item (now_names item c))
      ∙ sym (filter_past front was back p (λ item c. other item (was_names item c))) ∙ ap (filter p) (sym parts)

  same_find : (p : Item → Bool) → ((item : Item) → IsNamesItem item → p item ≡ false) → find p new ≡ find p items
  same_find p other =
      find_past front now back p (λ item c. other item (now_names item c))
      ∙ sym (find_past front was back p (λ item c. other item (was_names item c))) ∙ ap (find p) (sym parts)

  same_saying : {Y : Type 0} (f : Item → List Y) → ((item : Item) → IsNamesItem item → f item ≡ []) → flat_map f new ≡ flat_map f items
  same_saying f other =
      says_past front now back f (λ item c. other item (now_names item c))
      ∙ sym (says_past front was back f (λ item c. other item (was_names item c))) ∙ ap (flat_map f) (sym parts)

  same_inode : (other : ℕ) → inode_in new other ≡ inode_in items other
  same_inode other = ap value_of_item (same_find (is_at other inode_item) (not_at other inode_item refl refl))

  same_attributes : (other : ℕ) → filter (is_at other xattr_item) new ≡ filter (is_at other xattr_item) items
  same_attributes other = same_filter (is_at other xattr_item) (not_at other xattr_item refl refl)

  same_extents : (other : ℕ) → filter (is_at other extent_data) new ≡ filter (is_at other extent_data) items
  same_extents other = same_filter (is_at other extent_data) (not_at other extent_data refl refl)

  same_whole : (other : ℕ) (value : Option InodeValue) → whole_said new blocks other value ≡ whole_said items blocks other value
  same_whole other None = refl
  same_whole other (Some value) = rw (same_attributes other, same_extents other) refl

  same_existing : (other : ℕ) (value : Option InodeValue) → existing_said new other value ≡ existing_said items other value
  same_existing other None = refl
  same_existing other (Some value) = rw (same_extents other) refl

  -- an item that is there then was there, or is one of the subvolume's names of the inode
  was_there : (item : Item) → Contains new item → Contains items item ⊎ Contains now item
  was_there item c = elim (Contains-append_cases front (now ++ back) item c) [
    | inl low ↦ inl (in_front item low).0
    | inr more ↦ elim (Contains-append_cases now back item more) [
      | inl here ↦ inr here
      | inr high ↦ inl (in_back item high).0
    ]
  ]

  extent_was : (other : ℕ) (item : Item) → Contains new item → is_at other extent_data item ≡ true → Contains items item
  extent_was other item c is = elim (was_there item c) [
    | inl there ↦ there
    | inr here ↦ absurd (true≢false (sym is ∙ not_at other extent_data refl refl item (now_names item here)))
  ]

  -- the log has the inode
  has_it : (o : Option InodeValue) → inode_in items ino ≡ o → (value : InodeValue) × (inode_in items ino ≡ Some value)
  has_it (Some value) is = (value, is)
  has_it None is =
      let whole : get log.whole ino ≡ None = h.whole ino ∙ ap (whole_said items blocks ino) is in
      let existing : get log.existing ino ≡ None = h.existing ino ∙ ap (existing_said items ino) is in
      absurd (true≢false (sym logged ∙ rw (whole, existing) refl))

  -- ---- names

  one_says : (item : Item) → Contains now item → SaysItsNames sub item
  one_says item c =
      let there = in_now item c in
      let asked = are.only item.0 item.1 there.0 in
      let other : nat_eq item.0.objectid 256 ≡ false = ap (λ (n : ℕ). nat_eq n 256) there.1.objectid ∙ (logged_from ino current item c).0 in
      elim there.1.kind [
        | inl near ↦ near_says sub theirs item coherent.in_order other near asked
        | inr far ↦ far_says sub theirs item coherent.in_order far asked
      ]

  now_rise : ItemsRise now
  now_rise = by_root (nat_eq ino 256)
    where
      by_root : (b : Bool) → ItemsRise (if b then [] else between (first_name ino) (last_name ino) current)
      by_root true = tt
      by_root false = rise_filter (λ (x : Item). not (key_below (last_name ino) x.0)) (items_from (first_name ino) current) (rise_filter (λ (x : Item). not (key_below x.0 (first_name ino))) current rise)

  new_once : AreDistinct (names_in now)
  new_once = items_once sub now now_rise one_says

  said_now : (name : FlatName) → Contains (names_in now) name → Contains sub.names name × (name.ino ≡ ino)
  said_now name c =
      let found = in_flat_map names_in_item now name c in
      let said = (one_says found.0 found.1).said name found.2 in
      (said.0, sym (name_ino name name.near) ∙ ap (λ (k : Key). k.objectid) said.1 ∙ (in_now found.0 found.1).1.objectid)

  -- each name that the subvolume has of the inode stands in an item that is copied
  has_key : (name : FlatName) → Contains sub.names name → (b : Bool) → name.near ≡ b → HasKey current (cond b (make_key name.ino inode_ref name.dir) (make_key name.ino inode_extref (extref_hash_of name.dir name.bytes)))
  has_key name c true near =
      are.refs name.ino name.dir (not_empty (ref_of name) (refs_asked sub name.ino name.dir) (Contains-append_right (own_refs name.ino name.dir) (map ref_of (filter p sub.names)) (ref_of name) (map_in ref_of (filter p sub.names) name (filter_in p sub.names name c asked))))
    where
      p : FlatName → Bool
      p other = other.near && (nat_eq other.ino name.ino && nat_eq other.dir name.dir)

      asked : p name ≡ true
      asked = rw (near, eq-eqb name.ino name.ino refl, eq-eqb name.dir name.dir refl) refl
  has_key name c false far =
      are.extrefs name.ino (extref_hash_of name.dir name.bytes) (not_empty (extref_of name) (extrefs_asked sub name.ino (extref_hash_of name.dir name.bytes)) (map_in extref_of (filter p sub.names) name (filter_in p sub.names name c asked)))
    where
      p : FlatName → Bool
      p other = not other.near && (nat_eq other.ino name.ino && nat_eq (extref_hash_of other.dir other.bytes) (extref_hash_of name.dir name.bytes))

      asked : p name ≡ true
      asked = rw (far, eq-eqb name.ino name.ino refl, eq-eqb (extref_hash_of name.dir name.bytes) (extref_hash_of name.dir name.bytes) refl) refl

  between_in : (item : Item) → Contains current item → IsNameKey ino item.0 → Contains (between (first_name ino) (last_name ino) current) item
  between_in item c is =
      let from : key_below item.0 (first_name ino) ≡ false = false_from_ne_true (key_below item.0 (first_name ino)) (λ e. not_in_front ino item.0 e is) in
      let to : key_below (last_name ino) item.0 ≡ false = false_from_ne_true (key_below (last_name ino) item.0) (λ e. not_behind ino item.0 (their_keys item.0 item.1 c) e is) in
      filter_in (λ (x : Item). not (key_below (last_name ino) x.0)) (items_from (first_name ino) current) item (filter_in (λ (x : Item). not (key_below x.0 (first_name ino))) current item c (ap not from)) (ap not to)

  now_in : (item : Item) → Contains current item → IsNameKey ino item.0 → nat_eq ino 256 ≡ false → Contains now item
  now_in item c is other = subst (λ (b : Bool). Contains (if b then [] else between (first_name ino) (last_name ino) current) item) (sym other) (between_in item c is)

  key_kind : (name : FlatName) (b : Bool) → IsNameKey name.ino (cond b (make_key name.ino inode_ref name.dir) (make_key name.ino inode_extref (extref_hash_of name.dir name.bytes)))
  key_kind name true = record { objectid = refl; kind = inl refl }
  key_kind name false = record { objectid = refl; kind = inr refl }

  now_said : (name : FlatName) → Contains sub.names name → name.ino ≡ ino → Contains (names_in now) name
  now_said name c is =
      let there = has_key name c name.near refl in
      let item : Item = (key_of_name name, there.0) in
      let other : nat_eq ino 256 ≡ false = false_from_ne_true (nat_eq ino 256) (λ e. coherent.root_has_no_name name c (is ∙ eqb-true ino 256 e)) in
      let here : Contains now item = now_in item there.1 (subst (λ (n : ℕ). IsNameKey n (key_of_name name)) is (key_kind name name.near)) other in
      flat_map_in names_in_item now item name here ((one_says item here).says name c refl)

  abbrev is_other : FlatName → Bool
  is_other name = not (leads_to ino name)

  other_of : (name : FlatName) → name.ino ≢ ino → is_other name ≡ true
  other_of name apart = ap not (false_from_ne_true (nat_eq name.ino ino) (λ e. apart (eqb-true name.ino ino e)))

  not_ino : (name : FlatName) → is_other name ≡ true → name.ino ≢ ino
  not_ino name other e = true≢false (sym (eq-eqb name.ino ino e) ∙ not_true (nat_eq name.ino ino) other)

  -- the names that are left are those of other inodes
  front_other : (name : FlatName) → Contains (names_in front) name → is_other name ≡ true
  front_other name c =
      let by = named_by front name c in
      other_of name (λ e. (in_front by.item by.there).1 (record { objectid = by.ino ∙ e; kind = by.kind }))

  back_other : (name : FlatName) → Contains (names_in back) name → is_other name ≡ true
  back_other name c =
      let by = named_by back name c in
      other_of name (λ e. (in_back by.item by.there).1 (record { objectid = by.ino ∙ e; kind = by.kind }))

  was_own : (name : FlatName) → Contains (names_in was) name → is_other name ≡ false
  was_own name c =
      let by = named_by was name c in
      ap not (eq-eqb name.ino ino (sym by.ino ∙ (in_between items by.item by.there).1.objectid))

  names_parts : (middle : List Item) → names_in (front ++ (middle ++ back)) ≡ names_in front ++ (names_in middle ++ names_in back)
  names_parts middle =
      flat_map-append names_in_item front (middle ++ back) ∙ ap (λ (l : List FlatName). names_in front ++ l) (flat_map-append names_in_item middle back)

  others_left : filter is_other (names_in items) ≡ names_in front ++ names_in back
  others_left =
      ap (filter is_other) (ap names_in parts ∙ names_parts was)
      ∙ filter_past (names_in front) (names_in was) (names_in back) is_other was_own
      ∙ ap (λ (l : List FlatName). l ++ filter is_other (names_in back)) (filter_keeps is_other (names_in front) front_other)
      ∙ ap (λ (l : List FlatName). names_in front ++ l) (filter_keeps is_other (names_in back) back_other)

  left_other : (name : FlatName) → Contains (names_in front ++ names_in back) name → is_other name ≡ true
  left_other name c = (in_filter is_other (names_in items) name (subst (λ (l : List FlatName). Contains l name) (sym others_left) c)).1

  once_there : (dir : ℕ) → AreDistinct (filter (stands_in dir) (names_in new))
  once_there dir =
      let s : FlatName → Bool = stands_in dir in
      let left : AreDistinct (filter s (names_in front ++ names_in back)) = subst AreDistinct (filter_swaps is_other s (names_in items) ∙ ap (filter s) others_left) (distinct_filter is_other (filter s (names_in items)) (h.once dir)) in
      let both : AreDistinct (filter s (names_in front) ++ filter s (names_in back)) = subst AreDistinct (filter-append s (names_in front) (names_in back)) left in
      let apart : (n : FlatName) → Contains (filter s (names_in now)) n → Contains (filter s (names_in front) ++ filter s (names_in back)) n → ⊥ = λ n c d.
      let own = (said_now n (in_filter s (names_in now) n c).0).1 in
      let there = in_filter s (names_in front ++ names_in back) n (subst (λ (l : List FlatName). Contains l n) (sym (filter-append s (names_in front) (names_in back))) d) in
      not_ino n (left_other n there.0) own in
      let parted : filter s (names_in new) ≡ filter s (names_in front) ++ (filter s (names_in now) ++ filter s (names_in back)) =
      ap (filter s) (names_parts now) ∙ filter-append s (names_in front) (names_in now ++ names_in back) ∙ ap (λ (l : List FlatName). filter s (names_in front) ++ l) (filter-append s (names_in now) (names_in back)) in
      subst AreDistinct (sym parted) (distinct_insert (filter s (names_in front)) (filter s (names_in now)) (filter s (names_in back)) both (distinct_filter s (names_in now) new_once) apart)

  -- the names of the log with the subvolume's
  abbrev both_names : List FlatName
  both_names = filter (leads_to ino) sub.names ++ filter (λ name. not (leads_to ino name)) log.names

  in_log : (name : FlatName) → Contains (names_in front ++ names_in back) name → Contains (filter is_other log.names) name
  in_log name c =
      let there = in_filter is_other (names_in items) name (subst (λ (l : List FlatName). Contains l name) (sym others_left) c) in
      filter_in is_other log.names name (subst (λ (l : List FlatName). Contains l name) (sym h.names) (name_set_has (names_in items) name there.0)) there.1

  from_log : (name : FlatName) → Contains (filter is_other log.names) name → Contains (names_in front ++ names_in back) name
  from_log name c =
      let there = in_filter is_other log.names name c in
      subst (λ (l : List FlatName). Contains l name) others_left (filter_in is_other (names_in items) name (name_set_gives (names_in items) name (subst (λ (l : List FlatName). Contains l name) h.names there.0)) there.1)

  forth : (name : FlatName) → Contains both_names name → Contains (names_in new) name
  forth name c =
      subst (λ (l : List FlatName). Contains l name) (sym (names_parts now)) (elim (Contains-append_cases (filter (leads_to ino) sub.names) (filter is_other log.names) name c) [
        | inl own ↦
            let there = in_filter (leads_to ino) sub.names name own in
            Contains-append_right (names_in front) (names_in now ++ names_in back) name (Contains-append_left (names_in now) (names_in back) name (now_said name there.0 (eqb-true name.ino ino there.1)))
        | inr other ↦ elim (Contains-append_cases (names_in front) (names_in back) name (from_log name other)) [
          | inl low ↦ Contains-append_left (names_in front) (names_in now ++ names_in back) name low
          | inr high ↦ Contains-append_right (names_in front) (names_in now ++ names_in back) name (Contains-append_right (names_in now) (names_in back) name high)
        ]
      ])

  back_to : (name : FlatName) → Contains (names_in new) name → Contains both_names name
  back_to name c = elim (Contains-append_cases (names_in front) (names_in now ++ names_in back) name (subst (λ (l : List FlatName). Contains l name) (names_parts now) c)) [
    | inl low ↦ Contains-append_right (filter (leads_to ino) sub.names) (filter is_other log.names) name (in_log name (Contains-append_left (names_in front) (names_in back) name low))
    | inr more ↦ elim (Contains-append_cases (names_in now) (names_in back) name more) [
      | inl own ↦
          let said = said_now name own in
          Contains-append_left (filter (leads_to ino) sub.names) (filter is_other log.names) name (filter_in (leads_to ino) sub.names name said.0 (eq-eqb name.ino ino said.1))
      | inr high ↦ Contains-append_right (filter (leads_to ino) sub.names) (filter is_other log.names) name (in_log name (Contains-append_right (names_in front) (names_in back) name high))
    ]
  ]

  names_same : name_set both_names ≡ name_set (names_in new)
  names_same =
      same_name_set (name_set both_names) (name_set (names_in new)) (name_set_set both_names) (name_set_set (names_in new))
      (λ name c. name_set_has (names_in new) name (forth name (name_set_gives both_names name c)))
      (λ name c. name_set_has both_names name (back_to name (name_set_gives (names_in new) name c)))

  -- an item that is copied may stand in a log
  now_logged : (key : Key) (bytes : List ℕ) → Contains now (key, bytes) → IsLogItem key bytes
  now_logged key bytes c =
      let there = in_now (key, bytes) c in
      let asked = are.only key bytes there.0 in
      record { kind = log_kind there.1.kind; spelled = log_spelled there.1.kind (asked_is_spelled sub theirs key bytes asked); its_key = has_its_key sub theirs key bytes asked }
    where
      log_kind : (key.kind ≡ inode_ref) ⊎ (key.kind ≡ inode_extref) → is_log_kind key.kind ≡ true
      log_kind (inl k) = rw k refl
      log_kind (inr k) = rw k refl

      log_spelled : (key.kind ≡ inode_ref) ⊎ (key.kind ≡ inode_extref) → IsSpelled key bytes → IsLogSpelled key bytes
      log_spelled k spelled = record { inode = spelled.inode; refs = spelled.refs; extrefs = spelled.extrefs; entries = spelled.entries; extent = λ e. absurd (grind (arith, k, e)); range = spelled.range }

  pub renames : ItemsRise new → AreItemsOfLog new blocks (renamed ino sub log)
  renames rises = record {
    rise = rises;
    only = λ key bytes c. elim (was_there (key, bytes) c) [
      | inl there ↦ h.only key bytes there
      | inr here ↦ now_logged key bytes here
    ];
    has_inode = λ key bytes c asks. elim (was_there (key, bytes) c) [
      | inl there ↦ let said = h.has_inode key bytes there asks in (said.0, same_inode key.objectid ∙ said.1)
      | inr here ↦
          let said = has_it (inode_in items ino) refl in
          let is = (in_now (key, bytes) here).1.objectid in
          (said.0, same_inode key.objectid ∙ ap (inode_in items) is ∙ said.1)
    ];
    extents = λ other value is. subst (λ (l : List Item). HasItsExtents value (map extent_in_item l)) (sym (same_extents other)) (h.extents other value (sym (same_inode other) ∙ is));
    bare = λ other value is bare. ap (λ (l : List Item). flat_map pairs_in_item l) (same_attributes other) ∙ h.bare other value (sym (same_inode other) ∙ is) bare;
    apart = λ other one two c d one_at two_at below. h.apart other one two (extent_was other one c one_at) (extent_was other two d two_at) one_at two_at below;
    blocks_there = λ at c. h.blocks_there at (subst (λ (l : List ℕ). Contains l at) (same_saying item_addresses no_addresses) c);
    once = once_there;
    whole = λ other. h.whole other ∙ ap (whole_said items blocks other) (sym (same_inode other)) ∙ sym (same_whole other (inode_in new other));
    existing = λ other. h.existing other ∙ ap (existing_said items other) (sym (same_inode other)) ∙ sym (same_existing other (inode_in new other));
    names = names_same;
    ranges = h.ranges ∙ sym (same_saying ranges_in_item no_ranges);
    entries = h.entries ∙ sym (same_saying entries_in_item no_entries);
  }
