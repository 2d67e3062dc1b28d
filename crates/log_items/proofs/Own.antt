-- A log's items with other own items of an inode: item, attributes and extents. Which log they are.
use Rattle.std.proofs.Common.{◌≡◌, ◌≢◌, ◌≤◌, ◌<◌, ◌+◌, ◌||◌, ◌∙◌, ◌⊎◌, ℕ, Bool, true, false, not, List, [], ◌∷◌, Contains, Option, Some, None, nat_eq, filter, flat_map, map, refl, sym, ap, subst, inl, inr, arith}
use Rattle.std.specs.FinMap.{get}
use Rattle.std.proofs.lemmas.Bool.{cases_Bool, eq-eqb, eqb-true, false_from_ne_true, true≢false}
use Rattle.blk_base.specs.declared.key.Key.{Key}
use Rattle.blk_base.specs.Items.{InodeValue, IsInode}
use Rattle.blk_base.specs.Keys.{extent_data, inode_item, xattr_item}
use Rattle.blk_base.specs.Leaf.{Item}
use Rattle.blk_base.specs.Trees.{ItemsRise}
use Rattle.flat_model.specs.Names.{FlatName, name_set, stands_in}
use Rattle.log_image.specs.LogItems.{AreItemsOfLog, HasItsExtents, IsLogItem, asks_inode, attributes_in, covered_bytes, entries_in_item, existing_said, existing_in, extent_in_item, extents_in, inode_in, is_at, names_in_item, pairs_in_item, ranges_in_item, value_of_item, whole_in, whole_said}
use Rattle.log_image.proofs.OneLog.{at_gives}
use Rattle.log_image.proofs.Sayings.{in_flat_map}
use Rattle.logged_volume.specs.FlatLog.{AreDistinct, FlatLog}
use Rattle.volume_image.specs.Subvolume.{Data, item_addresses, make_key}
use Rattle.volume_image.proofs.Lists.{in_cons, in_nothing}
use Rattle.volume_image.proofs.Members.{filter_in, flat_map_in, in_filter}
use Rattle.log_items.proofs.Parts.{IsPart, filter_apart, find_first, first_of_list, keeps_others, says_apart}

-- whether an item is the inode's own: its item, one of its attributes or of its extents
abbrev pub is_own : ℕ → Item → Bool
is_own ino item = is_at ino inode_item item || (is_at ino xattr_item item || is_at ino extent_data item)

-- new items have these own items of the inode, and all others stay
pub record HasOwn (ino : ℕ) (items new : List Item) (bytes : List ℕ) (attributes extents : List Item) : Type 0 where
  pub inode : filter (is_at ino inode_item) new ≡ (make_key ino inode_item 0, bytes) ∷ []
  pub of_attributes : filter (is_at ino xattr_item) new ≡ attributes
  pub of_extents : filter (is_at ino extent_data) new ≡ extents
  pub others : filter (λ item. not (is_own ino item)) new ≡ filter (λ item. not (is_own ino item)) items

kinds_apart : (ino one two : ℕ) → one ≢ two → (item : Item) → is_at ino one item ≡ true → is_at ino two item ≡ false
kinds_apart ino one two apart item is = false_from_ne_true (is_at ino two item) (λ e. apart (sym (at_gives ino one item is).1 ∙ (at_gives ino two item e).1))

-- one type after the other
pub three_have : (ino : ℕ) (items one two new : List Item) (bytes : List ℕ) (attributes extents : List Item)
    → IsPart ino inode_item items one ((make_key ino inode_item 0, bytes) ∷ []) → IsPart ino xattr_item one two attributes → IsPart ino extent_data two new extents → HasOwn ino items new bytes attributes extents
three_have ino items one two new bytes attributes extents first second third = record {
  inode =
      keeps_others ino extent_data two new extents third (is_at ino inode_item) (kinds_apart ino extent_data inode_item (λ e. omega (arith, e)))
      ∙ keeps_others ino xattr_item one two attributes second (is_at ino inode_item) (kinds_apart ino xattr_item inode_item (λ e. omega (arith, e))) ∙ first.here;
  of_attributes = keeps_others ino extent_data two new extents third (is_at ino xattr_item) (kinds_apart ino extent_data xattr_item (λ e. omega (arith, e))) ∙ second.here;
  of_extents = third.here;
  others =
      keeps_others ino extent_data two new extents third p (λ item is. ap not (third_own item is))
      ∙ keeps_others ino xattr_item one two attributes second p (λ item is. ap not (second_own item is))
      ∙ keeps_others ino inode_item items one ((make_key ino inode_item 0, bytes) ∷ []) first p (λ item is. ap not (first_own item is));
}
  where
    p : Item → Bool
    p item = not (is_own ino item)

    right : (a b : Bool) → b ≡ true → (a || b) ≡ true
    right true b e = refl
    right false b e = e

    first_own : (item : Item) → is_at ino inode_item item ≡ true → is_own ino item ≡ true
    first_own item is = rw is refl

    second_own : (item : Item) → is_at ino xattr_item item ≡ true → is_own ino item ≡ true
    second_own item is = right (is_at ino inode_item item) (is_at ino xattr_item item || is_at ino extent_data item) (rw is refl)

    third_own : (item : Item) → is_at ino extent_data item ≡ true → is_own ino item ≡ true
    third_own item is = right (is_at ino inode_item item) (is_at ino xattr_item item || is_at ino extent_data item) (right (is_at ino xattr_item item) (is_at ino extent_data item) is)

-- the type of an own item
data OwnCase (ino : ℕ) (item : Item) : Type 0 where
  IsItem : is_at ino inode_item item ≡ true → OwnCase ino item
  IsAttribute : is_at ino xattr_item item ≡ true → OwnCase ino item
  IsExtent : is_at ino extent_data item ≡ true → OwnCase ino item

own_case : (ino : ℕ) (item : Item) → is_own ino item ≡ true → OwnCase ino item
own_case ino item own = go (is_at ino inode_item item) refl (is_at ino xattr_item item) refl (is_at ino extent_data item) refl
  where
    go : (a : Bool) → is_at ino inode_item item ≡ a → (b : Bool) → is_at ino xattr_item item ≡ b → (c : Bool) → is_at ino extent_data item ≡ c → OwnCase ino item
    go true e b f c g = IsItem e
    go false e true f c g = IsAttribute f
    go false e false f true g = IsExtent g
    go false e false f false g = let wrong : false ≡ true = sym (rw (e, f, g) refl) ∙ own in absurd (true≢false (sym wrong))

own_objectid : (ino : ℕ) (item : Item) → is_own ino item ≡ true → item.0.objectid ≡ ino
own_objectid ino item own = go (own_case ino item own)
  where
    go : OwnCase ino item → item.0.objectid ≡ ino
    go (IsItem e) = (at_gives ino inode_item item e).0
    go (IsAttribute e) = (at_gives ino xattr_item item e).0
    go (IsExtent e) = (at_gives ino extent_data item e).0

no_names : (ino : ℕ) (item : Item) → is_own ino item ≡ true → names_in_item item ≡ []
no_names ino item own = go (own_case ino item own)
  where
    go : OwnCase ino item → names_in_item item ≡ []
    go (IsItem e) = let k = (at_gives ino inode_item item e).1 in rw k refl
    go (IsAttribute e) = let k = (at_gives ino xattr_item item e).1 in rw k refl
    go (IsExtent e) = let k = (at_gives ino extent_data item e).1 in rw k refl

no_ranges : (ino : ℕ) (item : Item) → is_own ino item ≡ true → ranges_in_item item ≡ []
no_ranges ino item own = go (own_case ino item own)
  where
    go : OwnCase ino item → ranges_in_item item ≡ []
    go (IsItem e) = let k = (at_gives ino inode_item item e).1 in rw k refl
    go (IsAttribute e) = let k = (at_gives ino xattr_item item e).1 in rw k refl
    go (IsExtent e) = let k = (at_gives ino extent_data item e).1 in rw k refl

no_entries : (ino : ℕ) (item : Item) → is_own ino item ≡ true → entries_in_item item ≡ []
no_entries ino item own = go (own_case ino item own)
  where
    go : OwnCase ino item → entries_in_item item ≡ []
    go (IsItem e) = let k = (at_gives ino inode_item item e).1 in rw k refl
    go (IsAttribute e) = let k = (at_gives ino xattr_item item e).1 in rw k refl
    go (IsExtent e) = let k = (at_gives ino extent_data item e).1 in rw k refl

-- what the own items must be
pub record AreOwn (blocks : Data) (bytes : List ℕ) (value : InodeValue) (attributes extents : List Item) : Type 0 where
  pub spelled : IsInode bytes value
  pub attributes_logged : (key : Key) (bytes : List ℕ) → Contains attributes (key, bytes) → IsLogItem key bytes
  pub extents_logged : (key : Key) (bytes : List ℕ) → Contains extents (key, bytes) → IsLogItem key bytes
  pub its_extents : HasItsExtents value (map extent_in_item extents)
  pub bare : value.generation ≡ 0 → flat_map pairs_in_item attributes ≡ []
  pub apart : (one two : Item) → Contains extents one → Contains extents two → one.0.offset < two.0.offset → one.0.offset + covered_bytes (extent_in_item one) ≤ two.0.offset
  pub blocks_there : (item : Item) (at : ℕ) → Contains extents item → Contains (item_addresses item) at → (block : List ℕ) × (blocks at ≡ Some block)

module _ (ino : ℕ) (items new : List Item) (blocks : Data) (log : FlatLog) (bytes : List ℕ) (value : InodeValue) (attributes extents : List Item) (h : AreItemsOfLog items blocks log) (rises : ItemsRise new) (has : HasOwn ino items new bytes attributes extents) (are : AreOwn blocks bytes value attributes extents) where
  same_filter : (p : Item → Bool) → ((item : Item) → is_own ino item ≡ true → p item ≡ false) → filter p new ≡ filter p items
  same_filter p none = filter_apart p (is_own ino) new none ∙ ap (filter p) has.others ∙ sym (filter_apart p (is_own ino) items none)

  same_saying : {Y : Type 0} (f : Item → List Y) → ((item : Item) → is_own ino item ≡ true → f item ≡ []) → flat_map f new ≡ flat_map f items
  same_saying f none = says_apart f (is_own ino) new none ∙ ap (flat_map f) has.others ∙ sym (says_apart f (is_own ino) items none)

  other_at : (other kind : ℕ) → other ≢ ino → (item : Item) → is_own ino item ≡ true → is_at other kind item ≡ false
  other_at other kind apart item own = false_from_ne_true (is_at other kind item) (λ e. apart (sym (at_gives other kind item e).0 ∙ own_objectid ino item own))

  other_filter : (other kind : ℕ) → other ≢ ino → filter (is_at other kind) new ≡ filter (is_at other kind) items
  other_filter other kind apart = same_filter (is_at other kind) (other_at other kind apart)

  pub inode_now : inode_in new ino ≡ Some value
  inode_now = ap value_of_item (find_first (is_at ino inode_item) new ∙ ap first_of_list has.inode) ∙ ap Some are.spelled.value

  pub inode_other : (other : ℕ) → other ≢ ino → inode_in new other ≡ inode_in items other
  inode_other other apart = ap value_of_item (find_first (is_at other inode_item) new ∙ ap first_of_list (other_filter other inode_item apart) ∙ sym (find_first (is_at other inode_item) items))

  pub attributes_now : attributes_in new ino ≡ flat_map pairs_in_item attributes
  attributes_now = ap (flat_map pairs_in_item) has.of_attributes

  pub extents_now : extents_in new ino ≡ map extent_in_item extents
  extents_now = ap (map extent_in_item) has.of_extents

  whole_same : (other : ℕ) → other ≢ ino → (value : Option InodeValue) → whole_said new blocks other value ≡ whole_said items blocks other value
  whole_same other apart None = refl
  whole_same other apart (Some value) = rw (other_filter other xattr_item apart, other_filter other extent_data apart) refl

  existing_same : (other : ℕ) → other ≢ ino → (value : Option InodeValue) → existing_said new other value ≡ existing_said items other value
  existing_same other apart None = refl
  existing_same other apart (Some value) = rw (other_filter other extent_data apart) refl

  -- an item is the inode's own or was there
  was_there : (item : Item) → Contains new item → (is_own ino item ≡ true) ⊎ (Contains items item × (is_own ino item ≡ false))
  was_there item c = elim (cases_Bool (is_own ino item)) [
    | inl own ↦ inl own
    | inr other ↦ inr ((in_filter (λ (x : Item). not (is_own ino x)) items item (subst (λ (l : List Item). Contains l item) has.others (filter_in (λ (x : Item). not (is_own ino x)) new item c (ap not other)))).0, other)
  ]

  own_logged : (key : Key) (content : List ℕ) → Contains new (key, content) → OwnCase ino (key, content) → IsLogItem key content
  own_logged key content c (IsItem e) = elim (in_cons (make_key ino inode_item 0, bytes) (key, content) [] (subst (λ (l : List Item). Contains l (key, content)) has.inode (filter_in (is_at ino inode_item) new (key, content) c e))) [
    | inl same ↦ subst (λ (x : Item). IsLogItem x.0 x.1) same (record {
      kind = refl;
      spelled = record {
        inode = λ k. (value, are.spelled);
        refs = λ k. absurd (omega (arith, k));
        extrefs = λ k. absurd (omega (arith, k));
        entries = λ k. absurd (grind (arith, k));
        extent = λ k. absurd (omega (arith, k));
        range = λ k. absurd (omega (arith, k));
      };
      its_key = record {
        inode = λ k. refl;
        extrefs = λ k. absurd (omega (arith, k));
        hashed = λ k. absurd (omega (arith, k));
        indexed = λ k. absurd (omega (arith, k));
        attributes = λ k. absurd (omega (arith, k));
      };
    })
    | inr none ↦ absurd (in_nothing (key, content) none)
  ]
  own_logged key content c (IsAttribute e) = are.attributes_logged key content (subst (λ (l : List Item). Contains l (key, content)) has.of_attributes (filter_in (is_at ino xattr_item) new (key, content) c e))
  own_logged key content c (IsExtent e) = are.extents_logged key content (subst (λ (l : List Item). Contains l (key, content)) has.of_extents (filter_in (is_at ino extent_data) new (key, content) c e))

  extent_here : (item : Item) → Contains new item → is_at ino extent_data item ≡ true → Contains extents item
  extent_here item c at = subst (λ (l : List Item). Contains l item) has.of_extents (filter_in (is_at ino extent_data) new item c at)

  extent_was : (other : ℕ) → other ≢ ino → (item : Item) → Contains new item → is_at other extent_data item ≡ true → Contains items item
  extent_was other apart item c at = (in_filter (is_at other extent_data) items item (subst (λ (l : List Item). Contains l item) (other_filter other extent_data apart) (filter_in (is_at other extent_data) new item c at))).0

  -- the inode or another one
  by_ino : (other : ℕ) → (other ≡ ino) ⊎ (other ≢ ino)
  by_ino other = elim (cases_Bool (nat_eq other ino)) [
    | inl same ↦ inl (eqb-true other ino same)
    | inr apart ↦ inr (λ e. true≢false (sym (eq-eqb other ino e) ∙ apart))
  ]

  all_inode : (key : Key) (content : List ℕ) → Contains new (key, content) → asks_inode key.kind ≡ true → (said : InodeValue) × (inode_in new key.objectid ≡ Some said)
  all_inode key content c asks = elim (by_ino key.objectid) [
    | inl same ↦ (value, ap (inode_in new) same ∙ inode_now)
    | inr apart ↦ elim (was_there (key, content) c) [
      | inl own ↦ absurd (apart (own_objectid ino (key, content) own))
      | inr was ↦ let said = h.has_inode key content was.0 asks in (said.0, inode_other key.objectid apart ∙ said.1)
    ]
  ]

  all_extents : (other : ℕ) (said : InodeValue) → inode_in new other ≡ Some said → HasItsExtents said (extents_in new other)
  all_extents other said is = elim (by_ino other) [
    | inl same ↦
        let value_is : value ≡ said = some_same value said (sym inode_now ∙ ap (inode_in new) (sym same) ∙ is) in
        subst (λ (n : ℕ). HasItsExtents said (extents_in new n)) (sym same) (subst (λ (v : InodeValue). HasItsExtents v (extents_in new ino)) value_is (subst (HasItsExtents value) (sym extents_now) are.its_extents))
    | inr apart ↦ subst (λ (l : List Item). HasItsExtents said (map extent_in_item l)) (sym (other_filter other extent_data apart)) (h.extents other said (sym (inode_other other apart) ∙ is))
  ]
    where
      some_same : (x y : InodeValue) → Some x ≡ Some y → x ≡ y
      some_same x y e = cc

  all_bare : (other : ℕ) (said : InodeValue) → inode_in new other ≡ Some said → said.generation ≡ 0 → attributes_in new other ≡ []
  all_bare other said is zero = elim (by_ino other) [
    | inl same ↦
        let value_is : value ≡ said = some_same value said (sym inode_now ∙ ap (inode_in new) (sym same) ∙ is) in
        ap (attributes_in new) same ∙ attributes_now ∙ are.bare (ap (λ (v : InodeValue). v.generation) value_is ∙ zero)
    | inr apart ↦ ap (flat_map pairs_in_item) (other_filter other xattr_item apart) ∙ h.bare other said (sym (inode_other other apart) ∙ is) zero
  ]
    where
      some_same : (x y : InodeValue) → Some x ≡ Some y → x ≡ y
      some_same x y e = cc

  all_apart : (other : ℕ) (one two : Item) → Contains new one → Contains new two → is_at other extent_data one ≡ true → is_at other extent_data two ≡ true → one.0.offset < two.0.offset → one.0.offset + covered_bytes (extent_in_item one) ≤ two.0.offset
  all_apart other one two c d one_at two_at below = elim (by_ino other) [
    | inl same ↦ are.apart one two (extent_here one c (ap (λ (n : ℕ). is_at n extent_data one) (sym same) ∙ one_at)) (extent_here two d (ap (λ (n : ℕ). is_at n extent_data two) (sym same) ∙ two_at)) below
    | inr apart ↦ h.apart other one two (extent_was other apart one c one_at) (extent_was other apart two d two_at) one_at two_at below
  ]

  all_blocks : (at : ℕ) → Contains (flat_map item_addresses new) at → (block : List ℕ) × (blocks at ≡ Some block)
  all_blocks at c =
      let found = in_flat_map item_addresses new at c in
      elim (was_there found.0 found.1) [
        | inl own ↦ own_block found.0 found.1 found.2 (own_case ino found.0 own)
        | inr was ↦ h.blocks_there at (flat_map_in item_addresses items found.0 at was.0 found.2)
      ]
    where
      none : (item : Item) (kind : ℕ) → item.0.kind ≡ kind → nat_eq kind extent_data ≡ false → item_addresses item ≡ []
      none item kind k apart = rw (k, apart) refl

      own_block : (item : Item) → Contains new item → Contains (item_addresses item) at → OwnCase ino item → (block : List ℕ) × (blocks at ≡ Some block)
      own_block item d there (IsItem e) = absurd (in_nothing at (subst (λ (l : List ℕ). Contains l at) (none item inode_item (at_gives ino inode_item item e).1 refl) there))
      own_block item d there (IsAttribute e) = absurd (in_nothing at (subst (λ (l : List ℕ). Contains l at) (none item xattr_item (at_gives ino xattr_item item e).1 refl) there))
      own_block item d there (IsExtent e) = are.blocks_there item at (extent_here item d e) there

  -- a log that says this of the inode, and of all else what the old one says
  pub record SaysOwn (after : FlatLog) : Type 0 where
    pub whole : get after.whole ino ≡ whole_said new blocks ino (Some value)
    pub existing : get after.existing ino ≡ existing_said new ino (Some value)
    pub others_whole : (other : ℕ) → other ≢ ino → get after.whole other ≡ get log.whole other
    pub others_existing : (other : ℕ) → other ≢ ino → get after.existing other ≡ get log.existing other
    pub names : after.names ≡ log.names
    pub ranges : after.ranges ≡ log.ranges
    pub entries : after.entries ≡ log.entries

  pub log_with_own : (after : FlatLog) → SaysOwn after → AreItemsOfLog new blocks after
  log_with_own after says = record {
    rise = rises;
    only = λ key content c. elim (was_there (key, content) c) [ inl own ↦ own_logged key content c (own_case ino (key, content) own) | inr was ↦ h.only key content was.0 ];
    has_inode = all_inode;
    extents = all_extents;
    bare = all_bare;
    apart = all_apart;
    blocks_there = all_blocks;
    once = λ dir. subst (λ (l : List FlatName). AreDistinct (filter (stands_in dir) l)) (sym (same_saying names_in_item (no_names ino))) (h.once dir);
    whole = λ other. elim (by_ino other) [
      | inl same ↦ ap (get after.whole) same ∙ says.whole ∙ ap (whole_said new blocks ino) (sym inode_now) ∙ ap (λ (n : ℕ). whole_in new blocks n) (sym same)
      | inr apart ↦ says.others_whole other apart ∙ h.whole other ∙ ap (whole_said items blocks other) (sym (inode_other other apart)) ∙ sym (whole_same other apart (inode_in new other))
    ];
    existing = λ other. elim (by_ino other) [
      | inl same ↦ ap (get after.existing) same ∙ says.existing ∙ ap (existing_said new ino) (sym inode_now) ∙ ap (λ (n : ℕ). existing_in new n) (sym same)
      | inr apart ↦ says.others_existing other apart ∙ h.existing other ∙ ap (existing_said items other) (sym (inode_other other apart)) ∙ sym (existing_same other apart (inode_in new other))
    ];
    names = says.names ∙ h.names ∙ ap name_set (sym (same_saying names_in_item (no_names ino)));
    ranges = says.ranges ∙ h.ranges ∙ sym (same_saying ranges_in_item (no_ranges ino));
    entries = says.entries ∙ h.entries ∙ sym (same_saying entries_in_item (no_entries ino));
  }
