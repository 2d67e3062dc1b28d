-- A log without a fault is that of its items and accepted, and the other way round.
use Rattle.std.proofs.Common.{◌≡◌, ◌≢◌, ◌<◌, ◌≤◌, ◌+◌, ◌⊎◌, ◌&&◌, ◌||◌, ◌↔◌, ℕ, Bool, true, false, not, is_some, List, [], ◌∷◌, Contains, Option, Some, None, Ok, nat_eq, nat_lt, refl, sym, ap, ap₂, subst, ◌∙◌, inl, inr, arith}
use Rattle.std.specs.List.{list_any}
use Rattle.std.proofs.lemmas.Bool.{and_parts, and_from, or_cases, or_left, or_right, eqb-true, eq-eqb, lt-ltb, ltb-true, ltb-false, not-true, not-false, not_from_true, false_from_ne_true}
use Rattle.std.specs.FinMap.{get}
use Rattle.blk_base.specs.declared.key.Key.{Key}
use Rattle.blk_base.specs.declared.fault.ItemFault.{ItemFault}
use Rattle.blk_base.specs.Keys.{inode_ref, inode_extref, extent_data}
use Rattle.blk_base.specs.Leaf.{Item}
use Rattle.blk_base.specs.Items.{InodeValue, file_mode, dir_mode, link_mode}
use Rattle.blk_base.specs.ItemFaults.{is_log_kind}
use Rattle.item_laws.proofs.FaultLaws.{log_item_spelled, log_item_faultless}
use Rattle.flat_model.specs.Records.{InodeRecord, kind_of}
use Rattle.flat_model.specs.Names.{FlatName, is_name_set}
use Rattle.flat_model.specs.Volume.{Subvolume}
use Rattle.logged_volume.specs.FlatLog.{FlatLog, WholeInode, is_logged}
use Rattle.logged_volume.specs.Replay.{names_left}
use Rattle.logged_volume.specs.Accepted.{IsAccepted, kind_of_whole}
use Rattle.logged_volume.proofs.Members.{any_gives, any_from, none_from, none_gives, name_set_gives, name_set_has, is_set_name_set}
use Rattle.volume_image.specs.Subvolume.{Data, mode_of}
use Rattle.log_image.specs.LogItems.{AreItemsOfLog, IsLogItem, is_at, inode_in, attributes_in, extents_in, extent_in_item, covered_bytes, asks_inode, whole_in, whole_by_mode, made_by_mode, names_in}
use Rattle.log_image.specs.LogRules.{LogRule, StrayItem, LacksInode, OtherKind, PastLimits, MoreThanExists, WrongExtents, RootNamed, NamesClash, begins_inside, first_fault, first_broken, after_items, accepted_log, broken_rules, log_of, has_its_key, is_stray, of_value, is_there, differs, passes_limits, keeps_limits, has_more, has_wrong_extents, do_clash, does_break}
use Rattle.log_image.specs.Laws.{AreRead}
use Rattle.log_image.proofs.OneLog.{at_gives, at_from, same_gets}
use Rattle.log_image.proofs.Limits.{limits_give, limits_from}
use Rattle.log_image.proofs.Keys.{key_gives, key_from}
use Rattle.log_image.proofs.Clashes.{said_once, names_apart, clash_from}
use Rattle.log_image.proofs.Sayings.{said_by, named_by, first_near, first_far, kind_by_mode, whole_mode_kind, made_mode_kind, made_twice, record_mode_kind, same_mode}
use Rattle.log_image.proofs.Broken.{first_none, none_first, none_broken, broken_none}
use Rattle.log_image.proofs.Accepted.{whole_of_log, existing_of_log, names_of_log, ranges_of_log, entries_of_log, said_once_of, whole_by, existing_by, extents_give, bare_gives, wrong_from, more_from}

-- ---- tests over items

at_false : (items : List Item) (ino : ℕ) (p : Item → Bool) (item : Item) → Contains items item → item.0.objectid ≡ ino → list_any (λ (item : Item). nat_eq item.0.objectid ino && p item) items ≡ false → p item ≡ false
at_false items ino p item there is none =
    false_from_ne_true (p item) (λ h.
    let here = none_gives (λ (item : Item). nat_eq item.0.objectid ino && p item) items none item there in
    let yes = and_from (nat_eq item.0.objectid ino) (p item) (eq-eqb item.0.objectid ino is) h in
    absurd cc)

at_true : (items : List Item) (ino : ℕ) (p : Item → Bool) (item : Item) → Contains items item → item.0.objectid ≡ ino → p item ≡ true → list_any (λ (item : Item). nat_eq item.0.objectid ino && p item) items ≡ true
at_true items ino p item there is h =
    any_from (λ (item : Item). nat_eq item.0.objectid ino && p item) items item there (and_from (nat_eq item.0.objectid ino) (p item) (eq-eqb item.0.objectid ino is) h)

there_gives : (said : Option InodeValue) → is_there said ≡ true → (value : InodeValue) × (said ≡ Some value)
there_gives None h = absurd cc
there_gives (Some value) h = (value, refl)

-- both can't be, so the second isn't
second_false : (a b : Bool) → a ≡ true → (a && b) ≡ false → b ≡ false
second_false true b e h = h
second_false false b e h = absurd cc

is_ref : ℕ → Bool
is_ref kind = nat_eq kind inode_ref || nat_eq kind inode_extref

ref_asks : (kind : ℕ) → (kind ≡ inode_ref) ⊎ (kind ≡ inode_extref) → asks_inode kind ≡ true
ref_asks kind (inl k) = or_left (nat_eq kind inode_ref) _ (eq-eqb kind inode_ref k)
ref_asks kind (inr k) = or_right (nat_eq kind inode_ref) _ (or_left (nat_eq kind inode_extref) _ (eq-eqb kind inode_extref k))

ref_test : (kind : ℕ) → (kind ≡ inode_ref) ⊎ (kind ≡ inode_extref) → (nat_eq kind inode_ref || nat_eq kind inode_extref) ≡ true
ref_test kind (inl k) = or_left (nat_eq kind inode_ref) _ (eq-eqb kind inode_ref k)
ref_test kind (inr k) = or_right (nat_eq kind inode_ref) _ (eq-eqb kind inode_extref k)

-- ---- without a fault

module _ (committed : Subvolume) (items : List Item) (blocks : Data) (read : AreRead items blocks) (no_fault : first_fault items items ≡ None)
    (none : (ino : ℕ) (rule : LogRule) → does_break committed items blocks ino rule ≡ false) where
  log_item : (key : Key) (bytes : List ℕ) → Contains items (key, bytes) → IsLogItem key bytes
  log_item key bytes there =
      let stray = at_false items key.objectid is_stray (key, bytes) there refl (none key.objectid StrayItem) in
      let parts = and_parts (is_log_kind key.kind) (has_its_key key bytes) (not-false _ stray) in
      record {
        kind = parts.0;
        spelled = log_item_spelled key bytes (read.are_bytes key bytes there) (first_none items items no_fault (key, bytes) there).0;
        its_key = key_gives key bytes parts.0 parts.1;
      }

  inode_there : (key : Key) (bytes : List ℕ) → Contains items (key, bytes) → asks_inode key.kind ≡ true → (value : InodeValue) × (inode_in items key.objectid ≡ Some value)
  inode_there key bytes there asks =
      there_gives (inode_in items key.objectid)
      (not-false (is_there (inode_in items key.objectid))
      (second_false (list_any (λ item. nat_eq item.0.objectid key.objectid && asks_inode item.0.kind) items) _
      (at_true items key.objectid (λ item. asks_inode item.0.kind) (key, bytes) there refl asks) (none key.objectid LacksInode)))

  tested : (test : InodeValue → Bool) (ino : ℕ) (value : InodeValue) → inode_in items ino ≡ Some value → of_value test (inode_in items ino) ≡ false → test value ≡ false
  tested test ino value e h = sym (ap (of_value test) e) ∙ h

  extents_apart : (ino : ℕ) (one two : Item) → Contains items one → Contains items two → is_at ino extent_data one ≡ true → is_at ino extent_data two ≡ true
      → one.0.offset < two.0.offset → one.0.offset + covered_bytes (extent_in_item one) ≤ two.0.offset
  extents_apart ino one two a b at_one at_two below =
      let first = at_gives ino extent_data one at_one in
      let second = at_gives ino extent_data two at_two in
      let outside = (first_none items items no_fault two b).1 in
      let none_inside = second_false (nat_eq two.0.kind extent_data) (list_any inside_test items) (eq-eqb two.0.kind extent_data second.1) outside in
      let here = none_gives inside_test items none_inside one a in
      let rest = second_false (is_at two.0.objectid extent_data one) _ (at_from two.0.objectid extent_data one (first.0 ∙ sym second.0) first.1) here in
      ltb-false two.0.offset (one.0.offset + covered_bytes (extent_in_item one)) (second_false (nat_lt one.0.offset two.0.offset) _ (lt-ltb one.0.offset two.0.offset below) rest)
    where
      inside_test : Item → Bool
      inside_test other = is_at two.0.objectid extent_data other && (nat_lt other.0.offset two.0.offset && nat_lt two.0.offset (other.0.offset + covered_bytes (extent_in_item other)))

  clashes : (dir : ℕ) → do_clash (names_in items) (names_left committed (log_of items blocks)) dir ≡ false
  clashes dir = none dir NamesClash

  pub items_are : AreItemsOfLog items blocks (log_of items blocks)
  items_are = record {
    rise = read.rise;
    only = log_item;
    has_inode = inode_there;
    extents = λ ino value e. extents_give (attributes_in items ino) (extents_in items ino) value (tested (has_more (attributes_in items ino) (extents_in items ino)) ino value e (none ino MoreThanExists))
        (tested (has_wrong_extents (extents_in items ino)) ino value e (none ino WrongExtents));
    bare = λ ino value e g. bare_gives (attributes_in items ino) (extents_in items ino) value (tested (has_more (attributes_in items ino) (extents_in items ino)) ino value e (none ino MoreThanExists)) g;
    apart = extents_apart;
    blocks_there = read.blocks_there;
    once = said_once (names_in items) (names_left committed (log_of items blocks)) clashes;
    whole = whole_of_log items blocks;
    existing = existing_of_log items blocks;
    names = names_of_log items blocks;
    ranges = ranges_of_log items blocks;
    entries = entries_of_log items blocks;
  }

  -- ---- accepted

  said_name : (name : FlatName) → Contains (log_of items blocks).names name → Contains (names_in items) name
  said_name name c = name_set_gives (names_in items) name (subst (λ (names : List FlatName). Contains names name) (names_of_log items blocks) c)

  some_logged : (ino : ℕ) (value : InodeValue) → inode_in items ino ≡ Some value → is_logged (log_of items blocks) ino ≡ true
  some_logged ino value e = go (nat_eq value.generation 0) refl
    where
      once : Rattle.log_image.proofs.Accepted.SaidOnce items blocks ino value
      once = said_once_of items blocks ino value e

      go : (g : Bool) → nat_eq value.generation 0 ≡ g → is_logged (log_of items blocks) ino ≡ true
      go true g =
          or_right (is_some (get (log_of items blocks).whole ino)) (is_some (get (log_of items blocks).existing ino))
          (ap is_some (existing_of_log items blocks ino ∙ (once.bare (eqb-true value.generation 0 g)).1))
      go false g =
          or_left (is_some (get (log_of items blocks).whole ino)) (is_some (get (log_of items blocks).existing ino))
          (ap is_some (whole_of_log items blocks ino ∙ (once.full g).0))

  named : (name : FlatName) → Contains (log_of items blocks).names name → is_logged (log_of items blocks) name.ino ≡ true
  named name c =
      let by = named_by items name (said_name name c) in
      let value = inode_there by.item.0 by.item.1 by.there (ref_asks by.item.0.kind by.kind) in
      some_logged name.ino value.0 (ap (inode_in items) (sym by.ino) ∙ value.1)

  root_has_no_name : (name : FlatName) → Contains (log_of items blocks).names name → name.ino ≢ 256
  root_has_no_name name c is =
      let by = named_by items name (said_name name c) in
      let test = at_true items 256 (λ (item : Item). nat_eq item.0.kind inode_ref || nat_eq item.0.kind inode_extref) by.item by.there (by.ino ∙ is) (ref_test by.item.0.kind by.kind) in
      let broken = none 256 RootNamed in
      absurd (wrong _ test broken)
    where
      wrong : (b : Bool) → b ≡ true → (nat_eq 256 256 && b) ≡ false → ⊥
      wrong true e h = absurd cc
      wrong false e h = absurd cc

  same_kind : (ino : ℕ) (was : InodeRecord) (value : InodeValue) → get committed.inodes ino ≡ Some was → inode_in items ino ≡ Some value → kind_of was ≡ kind_by_mode value.mode
  same_kind ino was value there e =
      let differ = tested (differs (get committed.inodes ino)) ino value e (none ino OtherKind) in
      let same : not (nat_eq (mode_of was) value.mode) ≡ false = sym (ap (λ (r : Option InodeRecord). differs r value) there) ∙ differ in
      sym (record_mode_kind was) ∙ ap kind_by_mode (eqb-true (mode_of was) value.mode (not-false _ same))

  limits : (ino : ℕ) (whole : WholeInode) → get (log_of items blocks).whole ino ≡ Some whole → Rattle.logged_volume.specs.Accepted.KeepsWholeLimits whole
  limits ino whole h =
      let passes : passes_limits (Some whole) ≡ false = sym (ap passes_limits (sym (whole_of_log items blocks ino) ∙ h)) ∙ none ino PastLimits in
      limits_give whole (not-false (keeps_limits whole) passes)

  pub is_accepted : IsAccepted committed (log_of items blocks)
  is_accepted = record {
    in_order = subst (λ (names : List FlatName). is_name_set names ≡ true) (sym (names_of_log items blocks)) (is_set_name_set (names_in items));
    named = named;
    root_has_no_name = root_has_no_name;
    one_item = λ ino whole h.
        let by = whole_by items blocks ino whole (sym (whole_of_log items blocks ino) ∙ h) in
        existing_of_log items blocks ino ∙ ((said_once_of items blocks ino by.value by.said).full by.full).1;
    whole_kinds = λ ino was whole there h.
        let by = whole_by items blocks ino whole (sym (whole_of_log items blocks ino) ∙ h) in
        same_kind ino was by.value there by.said ∙ sym (whole_mode_kind items blocks ino by.value) ∙ ap kind_of_whole (sym by.is);
    existing_kinds = λ ino was inode there h.
        let by = existing_by items ino inode (sym (existing_of_log items blocks ino) ∙ h) in
        same_kind ino was by.value there by.said ∙ sym (made_mode_kind items ino by.value) ∙ ap kind_of (sym by.is);
    limits = limits;
    created = λ ino inode h.
        let by = existing_by items ino inode (sym (existing_of_log items blocks ino) ∙ h) in
        ap Rattle.flat_model.specs.Records.at_creation by.is ∙ made_twice items ino by.value ∙ sym by.is;
    apart = names_apart (names_in items) (names_left committed (log_of items blocks)) clashes;
  }

-- ---- the other way round

module _ (committed : Subvolume) (items : List Item) (blocks : Data) (log : FlatLog) (are : AreItemsOfLog items blocks log) where
  pub log_is : log_of items blocks ≡ log
  log_is =
      let whole = same_gets (log_of items blocks).whole log.whole (λ ino. whole_of_log items blocks ino ∙ sym (are.whole ino)) in
      let existing = same_gets (log_of items blocks).existing log.existing (λ ino. existing_of_log items blocks ino ∙ sym (are.existing ino)) in
      let names : (log_of items blocks).names ≡ log.names = names_of_log items blocks ∙ sym are.names in
      let ranges : (log_of items blocks).ranges ≡ log.ranges = ranges_of_log items blocks ∙ sym are.ranges in
      let entries : (log_of items blocks).entries ≡ log.entries = entries_of_log items blocks ∙ sym are.entries in
      λ i. record { whole = whole i; existing = existing i; names = names i; ranges = ranges i; entries = entries i }

  pub no_first_fault : first_fault items items ≡ None
  no_first_fault = none_first items items (λ item c. (log_item_faultless item.0 item.1 (are.only item.0 item.1 c).spelled, outside item c))
    where
      outside : (item : Item) → Contains items item → begins_inside items item ≡ false
      outside item c = false_from_ne_true (begins_inside items item) (λ h.
          let parts = and_parts (nat_eq item.0.kind extent_data) (list_any inside_test items) h in
          let other = any_gives inside_test items parts.1 in
          let at = and_parts (is_at item.0.objectid extent_data other.0) _ other.2 in
          let below = and_parts (nat_lt other.0.0.offset item.0.offset) (nat_lt item.0.offset (other.0.0.offset + covered_bytes (extent_in_item other.0))) at.1 in
          let apart = are.apart item.0.objectid other.0 item other.1 c at.0 (at_from item.0.objectid extent_data item refl (eqb-true item.0.kind extent_data parts.0)) (ltb-true _ _ below.0) in
          let inside = ltb-true _ _ below.1 in
          absurd (omega arith))
        where
          inside_test : Item → Bool
          inside_test other = is_at item.0.objectid extent_data other && (nat_lt other.0.offset item.0.offset && nat_lt item.0.offset (other.0.offset + covered_bytes (extent_in_item other)))

  mode_is_one : (ino : ℕ) (value : InodeValue) → inode_in items ino ≡ Some value → (value.mode ≡ file_mode) ⊎ (value.mode ≡ dir_mode) ⊎ (value.mode ≡ link_mode)
  mode_is_one ino value e =
      let by = said_by items ino value e in
      let spelled = (are.only by.item.0 by.item.1 by.there).spelled.inode by.kind in
      let same : spelled.0.mode ≡ value.mode = ap (λ (v : InodeValue). v.mode) (sym spelled.1.value ∙ sym by.says) in
      subst (λ (mode : ℕ). (mode ≡ file_mode) ⊎ (mode ≡ dir_mode) ⊎ (mode ≡ link_mode)) same spelled.1.mode

  -- a test fails where it fails of what is said
  untested : (test : InodeValue → Bool) (ino : ℕ) → ((value : InodeValue) → inode_in items ino ≡ Some value → test value ≡ false) → of_value test (inode_in items ino) ≡ false
  untested test ino fails = go (inode_in items ino) refl
    where
      go : (said : Option InodeValue) → inode_in items ino ≡ said → of_value test said ≡ false
      go None e = refl
      go (Some value) e = fails value e

  module _ (accepted : IsAccepted committed log) where
    whole_there : (ino : ℕ) (value : InodeValue) → inode_in items ino ≡ Some value → (was : InodeRecord) → get committed.inodes ino ≡ Some was → kind_of was ≡ kind_by_mode value.mode
    whole_there ino value e was there = go (nat_eq value.generation 0) refl
      where
        once : Rattle.log_image.proofs.Accepted.SaidOnce items blocks ino value
        once = said_once_of items blocks ino value e

        go : (g : Bool) → nat_eq value.generation 0 ≡ g → kind_of was ≡ kind_by_mode value.mode
        go true g =
            accepted.existing_kinds ino was (made_by_mode items ino value) there (are.existing ino ∙ (once.bare (eqb-true value.generation 0 g)).1)
            ∙ made_mode_kind items ino value
        go false g =
            accepted.whole_kinds ino was (whole_by_mode items blocks ino value) there (are.whole ino ∙ (once.full g).0)
            ∙ whole_mode_kind items blocks ino value

    same_kinds : (ino : ℕ) (value : InodeValue) → inode_in items ino ≡ Some value → differs (get committed.inodes ino) value ≡ false
    same_kinds ino value e = go (get committed.inodes ino) refl
      where
        go : (was : Option InodeRecord) → get committed.inodes ino ≡ was → differs was value ≡ false
        go None there = refl
        go (Some was) there = not_from_true _ (eq-eqb (mode_of was) value.mode (same_mode was value.mode (mode_is_one ino value e) (whole_there ino value e was there)))

    keeps : (ino : ℕ) → passes_limits (whole_in items blocks ino) ≡ false
    keeps ino = go (whole_in items blocks ino) refl
      where
        go : (whole : Option WholeInode) → whole_in items blocks ino ≡ whole → passes_limits whole ≡ false
        go None e = refl
        go (Some whole) e = not_from_true (keeps_limits whole) (limits_from whole (accepted.limits ino whole (are.whole ino ∙ e)))

    unnamed : (item : Item) → Contains items item → item.0.objectid ≡ 256 → (item.0.kind ≡ inode_ref) ⊎ (item.0.kind ≡ inode_extref) → ⊥
    unnamed item there is (inl k) =
        let name = first_near items item there k (are.only item.0 item.1 there).spelled in
        accepted.root_has_no_name name.0 (subst (λ (names : List FlatName). Contains names name.0) (sym are.names) (name_set_has (names_in items) name.0 name.1)) (name.2 ∙ is)
    unnamed item there is (inr k) =
        let name = first_far items item there k (are.only item.0 item.1 there).spelled in
        accepted.root_has_no_name name.0 (subst (λ (names : List FlatName). Contains names name.0) (sym are.names) (name_set_has (names_in items) name.0 name.1)) (name.2 ∙ is)

    pub none_breaks : (ino : ℕ) (rule : LogRule) → does_break committed items blocks ino rule ≡ false
    none_breaks ino StrayItem = none_from (λ item. nat_eq item.0.objectid ino && is_stray item) items (λ item c.
        let is = are.only item.0 item.1 c in
        let kept : is_stray item ≡ false = not_from_true _ (and_from (is_log_kind item.0.kind) (has_its_key item.0 item.1) is.kind (key_from item.0 item.1 is.spelled is.its_key)) in
        false_from_ne_true _ (λ h. let stray = (and_parts (nat_eq item.0.objectid ino) (is_stray item) h).1 in absurd cc))
    none_breaks ino LacksInode = false_from_ne_true _ (λ h.
        let parts = and_parts (list_any (λ item. nat_eq item.0.objectid ino && asks_inode item.0.kind) items) (not (is_there (inode_in items ino))) h in
        let item = any_gives (λ item. nat_eq item.0.objectid ino && asks_inode item.0.kind) items parts.0 in
        let both = and_parts (nat_eq item.0.0.objectid ino) (asks_inode item.0.0.kind) item.2 in
        let value = are.has_inode item.0.0 item.0.1 item.1 both.1 in
        let there : is_there (inode_in items ino) ≡ true = ap is_there (ap (inode_in items) (sym (eqb-true item.0.0.objectid ino both.0)) ∙ value.1) in
        let gone = not-true (is_there (inode_in items ino)) parts.1 in
        absurd cc)
    none_breaks ino OtherKind = untested (differs (get committed.inodes ino)) ino (same_kinds ino)
    none_breaks ino PastLimits = keeps ino
    none_breaks ino MoreThanExists =
        untested (has_more (attributes_in items ino) (extents_in items ino)) ino
        (λ value e. more_from (attributes_in items ino) (extents_in items ino) value (are.extents ino value e) (are.bare ino value e))
    none_breaks ino WrongExtents =
        untested (has_wrong_extents (extents_in items ino)) ino (λ value e. wrong_from (extents_in items ino) value (are.extents ino value e) (mode_is_one ino value e))
    none_breaks ino RootNamed = false_from_ne_true _ (λ h.
        let parts = and_parts (nat_eq ino 256) (list_any ref_at items) h in
        let item = any_gives ref_at items parts.1 in
        let both = and_parts (nat_eq item.0.0.objectid ino) (nat_eq item.0.0.kind inode_ref || nat_eq item.0.0.kind inode_extref) item.2 in
        let is : item.0.0.objectid ≡ 256 = eqb-true item.0.0.objectid ino both.0 ∙ eqb-true ino 256 parts.0 in
        elim (or_cases (nat_eq item.0.0.kind inode_ref) (nat_eq item.0.0.kind inode_extref) both.1) [
          | inl near ↦ unnamed item.0 item.1 is (inl (eqb-true item.0.0.kind inode_ref near))
          | inr far ↦ unnamed item.0 item.1 is (inr (eqb-true item.0.0.kind inode_extref far))
        ])
      where
        ref_at : Item → Bool
        ref_at item = nat_eq item.0.objectid ino && (nat_eq item.0.kind inode_ref || nat_eq item.0.kind inode_extref)
    none_breaks ino NamesClash =
        clash_from (names_in items) (names_left committed (log_of items blocks)) are.once
        (subst (λ (l : FlatLog). Rattle.logged_volume.specs.Accepted.AreApart (names_left committed l)) (sym log_is) accepted.apart) ino

-- ---- exactly

accepted_gives : (fault : Option (Key × ItemFault)) (broken : List (ℕ × LogRule)) (said log : FlatLog) → after_items fault (first_broken broken said) ≡ Ok log → (fault ≡ None) × (broken ≡ []) × (said ≡ log)
accepted_gives None [] said log h = (refl, refl, cc)
accepted_gives None (b ∷ broken) said log h = absurd cc
accepted_gives (Some fault) broken said log h = absurd cc

pub accepted_is_exact : (committed : Subvolume) (items : List Item) (blocks : Data) (log : FlatLog) → AreRead items blocks → (accepted_log committed items blocks ≡ Ok log) ↔ (AreItemsOfLog items blocks log × IsAccepted committed log)
unfolding accepted_log
accepted_is_exact committed items blocks log read = (
  (λ h.
      let parts = accepted_gives (first_fault items items) (broken_rules committed items blocks) (log_of items blocks) log h in
      let none = none_broken committed items blocks parts.1 in (
        subst (λ (l : FlatLog). AreItemsOfLog items blocks l) parts.2 (items_are committed items blocks read parts.0 none),
        subst (λ (l : FlatLog). IsAccepted committed l) parts.2 (is_accepted committed items blocks read parts.0 none),
      )),
  (λ both.
      ap₂ after_items (no_first_fault committed items blocks log both.0)
      (ap₂ first_broken (broken_none committed items blocks (none_breaks committed items blocks log both.0 both.1)) (log_is committed items blocks log both.0))),
)
