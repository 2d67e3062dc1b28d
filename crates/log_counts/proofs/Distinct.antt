-- The things that the items of a log say are distinct, and each is said under its own key.
use Rattle.std.proofs.Common.{◌≡◌, ◌≢◌, ◌<◌, ◌≤◌, ◌*◌, ◌/◌, ◌++◌, ◌⊎◌, ℕ, suc, Bool, true, false, cond, List, [], ◌∷◌, length, map, filter, flat_map, slice_get, Contains, Some, Result, Ok, nat_eq, refl, sym, ap, subst, ◌∙◌, inl, inr, arith}
use Rattle.std.proofs.lemmas.Bool.{or_cases, eqb-true, eq-eqb}
use Rattle.std.proofs.lemmas.List.Elements.{All-contains, All-from_recursion, Contains-append_cases}
use Rattle.blk_base.specs.declared.key.Key.{Key}
use Rattle.blk_base.specs.declared.fault.ItemFault.{ItemFault}
use Rattle.blk_base.specs.Crc.{name_hash_of, extref_hash_of}
use Rattle.blk_base.specs.Keys.{KeyBelow, inode_item, inode_ref, inode_extref, xattr_item, dir_index, dir_log_index, extent_data}
use Rattle.blk_base.specs.Leaf.{Item}
use Rattle.blk_base.specs.Entries.{ExtRefValue, EntryValue, IsEntries, extrefs_of, refs_of, entries_of}
use Rattle.blk_base.specs.Items.{range_of}
use Rattle.blk_base.specs.Extents.{ExtentValue, Inline, Regular, Hole, IsLogExtent, log_extent_of}
use Rattle.blk_base.specs.ItemFaults.{LeadsNowhere, is_log_kind}
use Rattle.leaf_view.specs.KeyOrder.{KeyBelow_trans, KeyBelow_irrefl}
use Rattle.item_laws.specs.ExtRefs.{extrefs_to}
use Rattle.item_laws.specs.Directories.{entries_to}
use Rattle.item_laws.specs.ExtentLaws.{log_extent_to}
use Rattle.flat_model.specs.Names.{FlatName, stands_in}
use Rattle.flat_model.proofs.Lists.{contains_filter}
use Rattle.logged_volume.specs.FlatLog.{AreDistinct}
use Rattle.volume_image.specs.Tree.{ItemsRise}
use Rattle.volume_image.specs.Subvolume.{make_key}
use Rattle.volume_image.proofs.Lists.{in_nothing, in_cons}
use Rattle.volume_image.proofs.Reaches.{head_in, tail_in}
use Rattle.volume_image.proofs.Members.{in_map}
use Rattle.log_image.specs.LogItems.{IsLogItem, read_or, near_name, far_name, logged_entry, names_in_item, names_in}
use Rattle.log_image.proofs.Sayings.{in_flat_map}
use Rattle.log_stands.specs.StandsWithLog.{counted}
use Rattle.log_counts.proofs.Things.{Thing, AnInode, AName, ARange, AnEntry, AnAttribute, ARun, AHole, ATarget, key_of, extent_thing, things_of_item}
use Rattle.log_counts.proofs.Lengths.{length_map}

-- ---- distinct lists

module _ {X Y : Type 0} where
  distinct_map : (f : X → Y) → ((x y : X) → f x ≡ f y → x ≡ y) → (xs : List X) → AreDistinct xs → AreDistinct (map f xs)
  distinct_map f one [] d = tt
  distinct_map f one (x ∷ xs) d = (
    (λ c. let found = in_map f xs (f x) c in d.0 (subst (λ (z : X). Contains xs z) (one found.0 x found.2) found.1)),
    distinct_map f one xs d.1,
  )

distinct_append : {X : Type 0} (xs ys : List X) → AreDistinct xs → AreDistinct ys → ((x : X) → Contains xs x → Contains ys x → ⊥) → AreDistinct (xs ++ ys)
distinct_append [] ys a b apart = b
distinct_append (x ∷ xs) ys a b apart = (
  (λ c. elim (Contains-append_cases xs ys x c) [ inl here ↦ a.0 here | inr there ↦ apart x (head_in x xs) there ]),
  distinct_append xs ys a.1 b (λ y c d. apart y (tail_in x y xs c) d),
)

distinct_front : {X : Type 0} (xs ys : List X) → AreDistinct (xs ++ ys) → AreDistinct xs × AreDistinct ys
distinct_front [] ys d = (tt, d)
distinct_front (x ∷ xs) ys d =
    let rest = distinct_front xs ys d.1 in
    (((λ c. d.0 (Rattle.std.proofs.lemmas.List.Elements.Contains-append_left xs ys x c)), rest.0), rest.1)

distinct_one : {X : Type 0} (xs : List X) → length xs ≡ 1 → AreDistinct xs
distinct_one [] e = tt
distinct_one (x ∷ []) e = ((λ c. in_nothing x c), tt)
distinct_one (x ∷ y ∷ xs) e = absurd (omega arith)

-- a part of what is joined is distinct where all of it is
distinct_part : {X Y : Type 0} (f : X → List Y) (xs : List X) (x : X) → AreDistinct (flat_map f xs) → Contains xs x → AreDistinct (f x)
distinct_part f [] x d c = absurd (in_nothing x c)
distinct_part f (y ∷ xs) x d c =
    let parts = distinct_front (f y) (flat_map f xs) d in
    elim (in_cons y x xs c) [
      | inl here ↦ subst (λ z. AreDistinct (f z)) here parts.0
      | inr there ↦ distinct_part f xs x parts.1 there
    ]

-- names that are distinct in each directory are distinct
distinct_names : (names : List FlatName) → ((dir : ℕ) → AreDistinct (filter (stands_in dir) names)) → AreDistinct names
distinct_names [] each = tt
distinct_names (name ∷ names) each = (
  (λ c. (subst AreDistinct (here name.dir refl) (each name.dir)).0 (contains_filter (stands_in name.dir) names name (eq-eqb name.dir name.dir refl) c)),
  distinct_names names (λ dir. later dir (nat_eq name.dir dir) refl (each dir)),
)
  where
    here : (dir : ℕ) → name.dir ≡ dir → filter (stands_in dir) (name ∷ names) ≡ name ∷ filter (stands_in dir) names
    here dir e = ap (λ (b : Bool). cond b (name ∷ filter (stands_in dir) names) (filter (stands_in dir) names)) (eq-eqb name.dir dir e)

    later : (dir : ℕ) (b : Bool) → nat_eq name.dir dir ≡ b → AreDistinct (cond b (name ∷ filter (stands_in dir) names) (filter (stands_in dir) names)) → AreDistinct (filter (stands_in dir) names)
    later dir true e d = d.1
    later dir false e d = d

-- ---- the types of a log's items

log_kinds : (kind : ℕ) → is_log_kind kind ≡ true
    → (kind ≡ inode_item) ⊎ (kind ≡ inode_ref) ⊎ (kind ≡ inode_extref) ⊎ (kind ≡ xattr_item) ⊎ (kind ≡ dir_index) ⊎ (kind ≡ extent_data) ⊎ (kind ≡ dir_log_index)
log_kinds kind h = elim (or_cases _ (nat_eq kind dir_log_index) h) [
  | inr range ↦ inr (inr (inr (inr (inr (inr (eqb-true kind dir_log_index range))))))
  | inl h ↦ elim (or_cases _ (nat_eq kind extent_data) h) [
    | inr extent ↦ inr (inr (inr (inr (inr (inl (eqb-true kind extent_data extent))))))
    | inl h ↦ elim (or_cases _ (nat_eq kind dir_index) h) [
      | inr index ↦ inr (inr (inr (inr (inl (eqb-true kind dir_index index)))))
      | inl h ↦ elim (or_cases _ (nat_eq kind xattr_item) h) [
        | inr xattr ↦ inr (inr (inr (inl (eqb-true kind xattr_item xattr))))
        | inl h ↦ elim (or_cases _ (nat_eq kind inode_extref) h) [
          | inr far ↦ inr (inr (inl (eqb-true kind inode_extref far)))
          | inl h ↦ elim (or_cases (nat_eq kind inode_item) (nat_eq kind inode_ref) h) [
            | inr near ↦ inr (inl (eqb-true kind inode_ref near))
            | inl inode ↦ inl (eqb-true kind inode_item inode)
          ]
        ]
      ]
    ]
  ]
]

-- ---- what an item says

abbrev attribute_thing : ℕ → EntryValue → Thing
attribute_thing ino e = AnAttribute ino e.name

abbrev pair_of : EntryValue → List ℕ × List ℕ
pair_of e = (e.name, e.value)

abbrev pair_thing : ℕ → List ℕ × List ℕ → Thing
pair_thing ino pair = AnAttribute ino pair.0

abbrev last_of : List ℕ → ℕ
last_of bytes = read_or 0 (range_of bytes)

mapped : (ino : ℕ) (entries : List EntryValue) → map (pair_thing ino) (map pair_of entries) ≡ map (attribute_thing ino) entries
mapped ino [] = refl
mapped ino (e ∷ entries) = let rest = mapped ino entries in λ i. AnAttribute ino e.name ∷ rest i

place : (entries : List EntryValue) (e : EntryValue) → Contains entries e → (i : ℕ) × (slice_get entries i ≡ Some e)
place [] e c = absurd (in_nothing e c)
place (x ∷ entries) e c = elim (in_cons x e entries c) [
  | inl here ↦ (0, ap Some here)
  | inr there ↦ let rest = place entries e there in (suc rest.0, rest.1)
]

differ : (ino : ℕ) (entries : List EntryValue) → ((i j : ℕ) (a b : EntryValue) → i < j → slice_get entries i ≡ Some a → slice_get entries j ≡ Some b → a.name ≢ b.name) → AreDistinct (map (attribute_thing ino) entries)
differ ino [] once = tt
differ ino (e ∷ entries) once = (
  (λ c.
      let other = in_map (attribute_thing ino) entries (attribute_thing ino e) c in
      let at = place entries other.0 other.1 in
      let same : other.0.name ≡ e.name = cc in
      once 0 (suc at.0) e other.0 (omega arith) refl at.1 (sym same)),
  differ ino entries (λ i j a b below first second. once (suc i) (suc j) a b (omega arith) first second),
)

pub record SaysThings (item : Item) : Type 0 where
  pub many : counted item ≤ length (things_of_item item)
  pub distinct : AreDistinct (things_of_item item)
  pub keyed : (thing : Thing) → Contains (things_of_item item) thing → key_of thing ≡ item.0

key_is : (key : Key) (objectid kind offset : ℕ) → objectid ≡ key.objectid → key.kind ≡ kind → offset ≡ key.offset → make_key objectid kind offset ≡ key
key_is key objectid kind offset o k f = λ i. record { objectid = o i; kind = sym k i; offset = f i }

-- where an item says what this list has
says_list : (item : Item) (count : ℕ) (things : List Thing) → counted item ≡ count → things_of_item item ≡ things → count ≤ length things → AreDistinct things
    → ((thing : Thing) → Contains things thing → key_of thing ≡ item.0) → SaysThings item
says_list item count things c t many distinct keyed = record {
  many = subst (λ (n : ℕ). n ≤ length (things_of_item item)) (sym c) (subst (λ (xs : List Thing). count ≤ length xs) (sym t) many);
  distinct = subst AreDistinct (sym t) distinct;
  keyed = λ thing d. keyed thing (subst (λ (xs : List Thing). Contains xs thing) t d);
}

module _ (item : Item) (is : IsLogItem item.0 item.1) where
  says_inode : item.0.kind ≡ inode_item → SaysThings item
  says_inode k = says_list item 1 (AnInode item.0.objectid ∷ []) count things (omega arith) ((λ c. in_nothing (AnInode item.0.objectid) c), tt)
      (λ thing c. elim (in_cons (AnInode item.0.objectid) thing [] c) [
        | inl here ↦ ap key_of (sym here) ∙ key_is item.0 item.0.objectid inode_item 0 refl k (sym (is.its_key.inode k))
        | inr none ↦ absurd (in_nothing thing none)
      ])
    where
      count : counted item ≡ 1
      count = rw k refl

      things : things_of_item item ≡ AnInode item.0.objectid ∷ []
      things = rw k refl

  says_refs : AreDistinct (names_in_item item) → item.0.kind ≡ inode_ref → SaysThings item
  says_refs once k = says_list item (length (names_in_item item)) (map AName (names_in_item item)) count things (omega (arith, length_map AName (names_in_item item)))
      (distinct_map AName (λ x y e. same_name x y e) (names_in_item item) once) keyed
    where
      same_name : (x y : FlatName) → AName x ≡ AName y → x ≡ y
      same_name x y e = cc

      count : counted item ≡ length (names_in_item item)
      count = rw k refl

      things : things_of_item item ≡ map AName (names_in_item item)
      things = rw k refl

      said : names_in_item item ≡ map (near_name item.0) (read_or [] (refs_of item.0 item.1))
      said = rw k refl

      keyed : (thing : Thing) → Contains (map AName (names_in_item item)) thing → key_of thing ≡ item.0
      keyed thing c =
          let name = in_map AName (names_in_item item) thing c in
          let ref = in_map (near_name item.0) (read_or [] (refs_of item.0 item.1)) name.0 (subst (λ (names : List FlatName). Contains names name.0) said name.1) in
          ap key_of (sym name.2) ∙ ap (λ (n : FlatName). key_of (AName n)) (sym ref.2) ∙ key_is item.0 item.0.objectid inode_ref item.0.offset refl k refl

  says_extrefs : AreDistinct (names_in_item item) → item.0.kind ≡ inode_extref → SaysThings item
  says_extrefs once k = says_list item (length (names_in_item item)) (map AName (names_in_item item)) count things (omega (arith, length_map AName (names_in_item item)))
      (distinct_map AName (λ x y e. same_name x y e) (names_in_item item) once) keyed
    where
      same_name : (x y : FlatName) → AName x ≡ AName y → x ≡ y
      same_name x y e = cc

      count : counted item ≡ length (names_in_item item)
      count = rw k refl

      things : things_of_item item ≡ map AName (names_in_item item)
      things = rw k refl

      said : names_in_item item ≡ map (far_name item.0) (read_or [] (extrefs_of item.1))
      said = rw k refl

      keyed : (thing : Thing) → Contains (map AName (names_in_item item)) thing → key_of thing ≡ item.0
      keyed thing c =
          let name = in_map AName (names_in_item item) thing c in
          let ref = in_map (far_name item.0) (read_or [] (extrefs_of item.1)) name.0 (subst (λ (names : List FlatName). Contains names name.0) said name.1) in
          let refs = is.spelled.extrefs k in
          let read : read_or [] (extrefs_of item.1) ≡ refs.0 = ap (read_or []) (extrefs_to item.1 refs.0 refs.1) in
          let hash = All-contains (λ (r : ExtRefValue). extref_hash_of r.parent r.name ≡ item.0.offset) refs.0 ref.0
          (All-from_recursion (λ (r : ExtRefValue). extref_hash_of r.parent r.name ≡ item.0.offset) refs.0 (is.its_key.extrefs k refs.0 refs.1))
          (subst (λ (rs : List ExtRefValue). Contains rs ref.0) read ref.1) in
          ap key_of (sym name.2) ∙ ap (λ (n : FlatName). key_of (AName n)) (sym ref.2) ∙ key_is item.0 item.0.objectid inode_extref (extref_hash_of ref.0.parent ref.0.name) refl k hash

  says_range : item.0.kind ≡ dir_log_index → SaysThings item
  says_range k = says_list item 1 (ARange (record { dir = item.0.objectid; first = item.0.offset; last = last_of item.1 }) ∷ []) count things (omega arith) ((λ c. in_nothing _ c), tt)
      (λ thing c. elim (in_cons (ARange (record { dir = item.0.objectid; first = item.0.offset; last = last_of item.1 })) thing [] c) [
        | inl here ↦ ap key_of (sym here) ∙ key_is item.0 item.0.objectid dir_log_index item.0.offset refl k refl
        | inr none ↦ absurd (in_nothing thing none)
      ])
    where
      count : counted item ≡ 1
      count = rw k refl

      things : things_of_item item ≡ ARange (record { dir = item.0.objectid; first = item.0.offset; last = last_of item.1 }) ∷ []
      things = rw k refl

  says_index : item.0.kind ≡ dir_index → SaysThings item
  says_index k = go found.0 (entries_to dir_index item.1 found.0 found_is) (found_is.single refl)
    where
      found : (entries : List EntryValue) × IsEntries item.0.kind item.1 entries
      found = is.spelled.entries (inr (inl k))

      found_is : IsEntries dir_index item.1 found.0
      found_is = subst (λ (n : ℕ). IsEntries n item.1 found.0) k found.1

      count : counted item ≡ 1
      count = rw k refl

      things : things_of_item item ≡ map AnEntry (map (logged_entry item.0) (read_or [] (entries_of dir_index item.1)))
      things = rw k refl

      go : (entries : List EntryValue) → entries_of dir_index item.1 ≡ Ok entries → length entries ≡ 1 → SaysThings item
      go [] e one = absurd (omega arith)
      go (entry ∷ []) e one =
          says_list item 1 (AnEntry (logged_entry item.0 entry) ∷ []) count (things ∙ ap (λ (r : Result (List EntryValue) ItemFault). map AnEntry (map (logged_entry item.0) (read_or [] r))) e) (omega arith)
          ((λ c. in_nothing (AnEntry (logged_entry item.0 entry)) c), tt)
          (λ thing c. elim (in_cons (AnEntry (logged_entry item.0 entry)) thing [] c) [
            | inl here ↦ ap key_of (sym here) ∙ key_is item.0 item.0.objectid dir_index item.0.offset refl k refl
            | inr none ↦ absurd (in_nothing thing none)
          ])
      go (entry ∷ other ∷ entries) e one = absurd (omega arith)

  says_attributes : item.0.kind ≡ xattr_item → SaysThings item
  says_attributes k =
      says_list item (length found.0) (map (attribute_thing item.0.objectid) found.0) count things (omega (arith, length_map (attribute_thing item.0.objectid) found.0)) (differ item.0.objectid found.0 found_is.once) keyed
    where
      found : (entries : List EntryValue) × IsEntries item.0.kind item.1 entries
      found = is.spelled.entries (inr (inr k))

      found_is : IsEntries xattr_item item.1 found.0
      found_is = subst (λ (n : ℕ). IsEntries n item.1 found.0) k found.1

      read : read_or [] (entries_of xattr_item item.1) ≡ found.0
      read = ap (read_or []) (entries_to xattr_item item.1 found.0 found_is)

      count_here : counted item ≡ length (map pair_of (read_or [] (entries_of xattr_item item.1)))
      count_here = rw k refl

      count : counted item ≡ length found.0
      count = count_here ∙ length_map pair_of (read_or [] (entries_of xattr_item item.1)) ∙ ap length read

      things_here : things_of_item item ≡ map (pair_thing item.0.objectid) (map pair_of (read_or [] (entries_of xattr_item item.1)))
      things_here = rw k refl

      things : things_of_item item ≡ map (attribute_thing item.0.objectid) found.0
      things = things_here ∙ mapped item.0.objectid (read_or [] (entries_of xattr_item item.1)) ∙ ap (map (attribute_thing item.0.objectid)) read

      keyed : (thing : Thing) → Contains (map (attribute_thing item.0.objectid) found.0) thing → key_of thing ≡ item.0
      keyed thing c =
          let e = in_map (attribute_thing item.0.objectid) found.0 thing c in
          let hash = All-contains (λ (e : EntryValue). (name_hash_of e.name ≡ item.0.offset) × LeadsNowhere e) found.0 e.0
          (All-from_recursion (λ (e : EntryValue). (name_hash_of e.name ≡ item.0.offset) × LeadsNowhere e) found.0 (is.its_key.attributes k found.0 found_is)) e.1 in
          ap key_of (sym e.2) ∙ key_is item.0 item.0.objectid xattr_item (name_hash_of e.0.name) refl k hash.0

  says_extent : item.0.kind ≡ extent_data → SaysThings item
  says_extent k = let value = is.spelled.extent k in go value.0 value.1 (log_extent_to item.0 item.1 value.0 value.1)
    where
      count : counted item ≡ 1
      count = rw k refl

      things : things_of_item item ≡ extent_thing item.0.objectid (item.0.offset, read_or (Inline []) (log_extent_of item.0 item.1)) ∷ []
      things = rw k refl

      one : (thing : Thing) → extent_thing item.0.objectid (item.0.offset, read_or (Inline []) (log_extent_of item.0 item.1)) ≡ thing → key_of thing ≡ item.0 → SaysThings item
      one thing e key = says_list item 1 (thing ∷ []) count (things ∙ ap (λ (t : Thing). t ∷ []) e) (omega arith) ((λ c. in_nothing thing c), tt)
          (λ other c. elim (in_cons thing other [] c) [ inl here ↦ ap key_of (sym here) ∙ key | inr none ↦ absurd (in_nothing other none) ])

      go : (value : ExtentValue) → IsLogExtent item.0 item.1 value → log_extent_of item.0 item.1 ≡ Ok value → SaysThings item
      go (Inline content) says e =
          one (ATarget item.0.objectid) (ap (λ (r : Result ExtentValue ItemFault). extent_thing item.0.objectid (item.0.offset, read_or (Inline []) r)) e)
          (key_is item.0 item.0.objectid extent_data 0 refl k (sym says.5))
      go (Regular at offset len) says e =
          let aligned = says.10 in
          one (ARun item.0.objectid (item.0.offset / 4096)) (ap (λ (r : Result ExtentValue ItemFault). extent_thing item.0.objectid (item.0.offset, read_or (Inline []) r)) e)
          (key_is item.0 item.0.objectid extent_data (4096 * (item.0.offset / 4096)) refl k (omega arith))
      go (Hole len) says e =
          let aligned = says.10 in
          one (AHole item.0.objectid (item.0.offset / 4096) (len / 4096)) (ap (λ (r : Result ExtentValue ItemFault). extent_thing item.0.objectid (item.0.offset, read_or (Inline []) r)) e)
          (key_is item.0 item.0.objectid extent_data (4096 * (item.0.offset / 4096)) refl k (omega arith))

  pub says_things : AreDistinct (names_in_item item) → SaysThings item
  says_things once = elim (log_kinds item.0.kind is.kind) [
    | inl inode ↦ says_inode inode
    | inr other ↦ elim other [
      | inl near ↦ says_refs once near
      | inr other ↦ elim other [
        | inl far ↦ says_extrefs once far
        | inr other ↦ elim other [
          | inl xattr ↦ says_attributes xattr
          | inr other ↦ elim other [
            | inl index ↦ says_index index
            | inr other ↦ elim other [ inl extent ↦ says_extent extent | inr range ↦ says_range range ]
          ]
        ]
      ]
    ]
  ]

-- ---- of all items

rise_tail : (item : Item) (items : List Item) → ItemsRise (item ∷ items) → ItemsRise items
rise_tail item [] rise = tt
rise_tail item (next ∷ items) rise = rise.1

above : (item : Item) (items : List Item) → ItemsRise (item ∷ items) → (other : Item) → Contains items other → KeyBelow item.0 other.0
above item [] rise other c = absurd (in_nothing other c)
above item (next ∷ items) rise other c = elim (in_cons next other items c) [
  | inl here ↦ subst (λ (x : Item). KeyBelow item.0 x.0) here rise.0
  | inr there ↦ KeyBelow_trans item.0 next.0 other.0 rise.0 (above next items rise.1 other there)
]

pub things_distinct : (items : List Item) → ItemsRise items → ((item : Item) → Contains items item → SaysThings item) → AreDistinct (flat_map things_of_item items)
things_distinct [] rise each = tt
things_distinct (item ∷ items) rise each =
    let here = each item (head_in item items) in
    distinct_append (things_of_item item) (flat_map things_of_item items) here.distinct (things_distinct items (rise_tail item items rise) (λ other c. each other (tail_in item other items c)))
    (λ thing c d.
    let other = in_flat_map things_of_item items thing d in
    let key : item.0 ≡ other.0.0 = sym (here.keyed thing c) ∙ (each other.0 (tail_in item other.0 items other.1)).keyed thing other.2 in
    KeyBelow_irrefl other.0.0 (subst (λ (k : Key). KeyBelow k other.0.0) key (above item items rise other.0 other.1)))

pub each_says : (items : List Item) → ((key : Key) (bytes : List ℕ) → Contains items (key, bytes) → IsLogItem key bytes) → ((dir : ℕ) → AreDistinct (filter (stands_in dir) (names_in items)))
    → (item : Item) → Contains items item → SaysThings item
each_says items only once item c = says_things item (only item.0 item.1 c) (distinct_part names_in_item items item (distinct_names (names_in items) once) c)
