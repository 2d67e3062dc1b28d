-- No fault and no broken rule: what that says of each item and each objectid.
use Rattle.std.proofs.Common.{◌≡◌, ◌&&◌, ◌++◌, ℕ, Bool, true, false, List, [], ◌∷◌, Contains, Option, Some, None, nat_eq, filter, map, flat_map, refl, ap₂, subst, inl, inr, arith}
use Rattle.std.specs.List.{list_any}
use Rattle.std.proofs.lemmas.Bool.{and_parts, or_cases, eqb-true, false_from_ne_true}
use Rattle.std.proofs.lemmas.List.Elements.{Contains-append_left, Contains-append_right}
use Rattle.blk_base.specs.declared.key.Key.{Key}
use Rattle.blk_base.specs.declared.fault.ItemFault.{ItemFault}
use Rattle.blk_base.specs.Leaf.{Item}
use Rattle.blk_base.specs.Items.{InodeValue}
use Rattle.blk_base.specs.ItemFaults.{log_item_fault}
use Rattle.flat_model.specs.Names.{FlatName, stands_in}
use Rattle.flat_model.specs.Volume.{Subvolume}
use Rattle.flat_model.proofs.Lists.{filter_contains}
use Rattle.logged_volume.specs.FlatLog.{WholeInode}
use Rattle.logged_volume.specs.Replay.{names_left}
use Rattle.logged_volume.proofs.Members.{any_gives, number_set_has, name_set_has}
use Rattle.logged_volume.proofs.Replays.{left_has}
use Rattle.volume_image.specs.Subvolume.{Data}
use Rattle.volume_image.proofs.Lists.{in_nothing, in_cons}
use Rattle.volume_image.proofs.Reaches.{head_in, tail_in}
use Rattle.volume_image.proofs.Members.{map_in, filter_in, flat_map_in}
use Rattle.log_image.specs.LogItems.{inode_in, whole_in, whole_said, names_in}
use Rattle.log_image.specs.LogRules.{begins_inside, fault_then, fault_or, fault_among, first_fault, objectids_in, log_of, LogRule, StrayItem, LacksInode, OtherKind, PastLimits, MoreThanExists, WrongExtents, RootNamed, NamesClash, all_rules, of_value, passes_limits, is_twice, do_meet, do_clash, does_break, objectids_left, broken_rules}
use Rattle.log_image.proofs.Sayings.{said_by}

-- ---- faults of items

then_none : (fault : Option ItemFault) (inside : Bool) → fault_then fault inside ≡ None → (fault ≡ None) × (inside ≡ false)
then_none None true h = absurd cc
then_none None false h = (refl, refl)
then_none (Some fault) inside h = absurd cc

or_none : (key : Key) (fault : Option ItemFault) (later : Option (Key × ItemFault)) → fault_or key fault later ≡ None → (fault ≡ None) × (later ≡ None)
or_none key None later h = (refl, h)
or_none key (Some fault) later h = absurd cc

pub first_none : (all items : List Item) → first_fault all items ≡ None → (item : Item) → Contains items item → (log_item_fault item.0 item.1 ≡ None) × (begins_inside all item ≡ false)
first_none all [] h item c = absurd (in_nothing item c)
first_none all (first ∷ items) h item c =
    let parts = or_none first.0 (fault_among all first) (first_fault all items) h in
    elim (in_cons first item items c) [
      | inl here ↦ subst (λ (x : Item). (log_item_fault x.0 x.1 ≡ None) × (begins_inside all x ≡ false)) here (then_none (log_item_fault first.0 first.1) (begins_inside all first) parts.0)
      | inr there ↦ first_none all items parts.1 item there
    ]

pub none_first : (all items : List Item) → ((item : Item) → Contains items item → (log_item_fault item.0 item.1 ≡ None) × (begins_inside all item ≡ false)) → first_fault all items ≡ None
none_first all [] h = refl
none_first all (first ∷ items) h =
    let here = h first (head_in first items) in
    let later = none_first all items (λ item c. h item (tail_in first item items c)) in
    let none : fault_among all first ≡ None = ap₂ fault_then here.0 here.1 in
    ap₂ (fault_or first.0) none later

-- ---- objectids

item_objectid : (items : List Item) (item : Item) → Contains items item → Contains (objectids_in items) item.0.objectid
item_objectid items item c = map_in (λ (item : Item). item.0.objectid) items item c

pub said_objectid : (items : List Item) (ino : ℕ) (value : InodeValue) → inode_in items ino ≡ Some value → Contains (objectids_in items) ino
said_objectid items ino value h = let by = said_by items ino value h in subst (λ (n : ℕ). Contains (objectids_in items) n) by.objectid (item_objectid items by.item by.there)

any_objectid : (items : List Item) (ino : ℕ) (p : Item → Bool) → list_any (λ (item : Item). nat_eq item.0.objectid ino && p item) items ≡ true → Contains (objectids_in items) ino
any_objectid items ino p h =
    let found = any_gives (λ (item : Item). nat_eq item.0.objectid ino && p item) items h in
    let both = and_parts (nat_eq found.0.0.objectid ino) (p found.0) found.2 in
    subst (λ (n : ℕ). Contains (objectids_in items) n) (eqb-true found.0.0.objectid ino both.0) (item_objectid items found.0 found.1)

value_objectid : (items : List Item) (ino : ℕ) (test : InodeValue → Bool) → of_value test (inode_in items ino) ≡ true → Contains (objectids_in items) ino
value_objectid items ino test h = go (inode_in items ino) refl h
  where
    go : (said : Option InodeValue) → inode_in items ino ≡ said → of_value test said ≡ true → Contains (objectids_in items) ino
    go None e h = absurd cc
    go (Some value) e h = said_objectid items ino value e

pub whole_objectid : (items : List Item) (blocks : Data) (ino : ℕ) (whole : WholeInode) → whole_in items blocks ino ≡ Some whole → Contains (objectids_in items) ino
whole_objectid items blocks ino whole h = go (inode_in items ino) refl h
  where
    go : (said : Option InodeValue) → inode_in items ino ≡ said → whole_said items blocks ino said ≡ Some whole → Contains (objectids_in items) ino
    go None e h = absurd cc
    go (Some value) e h = said_objectid items ino value e

limits_objectid : (items : List Item) (blocks : Data) (ino : ℕ) → passes_limits (whole_in items blocks ino) ≡ true → Contains (objectids_in items) ino
limits_objectid items blocks ino h = go (whole_in items blocks ino) refl h
  where
    go : (whole : Option WholeInode) → whole_in items blocks ino ≡ whole → passes_limits whole ≡ true → Contains (objectids_in items) ino
    go None e h = absurd cc
    go (Some whole) e h = whole_objectid items blocks ino whole e

module _ (committed : Subvolume) (items : List Item) (blocks : Data) where
  abbrev left : List FlatName
  left = names_left committed (log_of items blocks)

  of_item : (ino : ℕ) → Contains (objectids_in items) ino → Contains (objectids_left committed items blocks) ino
  of_item ino c = number_set_has (objectids_in items ++ map (λ (name : FlatName). name.dir) left) ino (Contains-append_left (objectids_in items) (map (λ (name : FlatName). name.dir) left) ino c)

  of_left : (dir : ℕ) (name : FlatName) → Contains left name → name.dir ≡ dir → Contains (objectids_left committed items blocks) dir
  of_left dir name c is =
      number_set_has (objectids_in items ++ map (λ (name : FlatName). name.dir) left) dir
      (Contains-append_right (objectids_in items) (map (λ (name : FlatName). name.dir) left) dir (subst (λ (n : ℕ). Contains (map (λ (name : FlatName). name.dir) left) n) is (map_in (λ (name : FlatName). name.dir) left name c)))

  pub said_left : (name : FlatName) → Contains (names_in items) name → Contains left name
  unfolding log_of
  said_left name c = left_has committed (log_of items blocks) name (name_set_has (names_in items) name c)

  twice_some : (names : List FlatName) → is_twice names ≡ true → (name : FlatName) × Contains names name
  twice_some [] h = absurd cc
  twice_some (name ∷ names) h = (name, head_in name names)

  clash_left : (dir : ℕ) → do_clash (names_in items) left dir ≡ true → Contains (objectids_left committed items blocks) dir
  clash_left dir h = elim (or_cases (is_twice (filter (stands_in dir) (names_in items))) _ h) [
    | inl twice ↦
        let some = twice_some (filter (stands_in dir) (names_in items)) twice in
        let found = filter_contains (stands_in dir) (names_in items) some.0 some.1 in
        of_left dir some.0 (said_left some.0 found.0) (eqb-true some.0.dir dir found.1)
    | inr other ↦ elim (or_cases (list_any (λ one. list_any (do_meet one) (filter (stands_in dir) left)) (filter (stands_in dir) left)) _ other) [
      | inl meet ↦ let some = any_gives (λ one. list_any (do_meet one) (filter (stands_in dir) left)) (filter (stands_in dir) left) meet in of_standing some.0 some.1
      | inr long ↦ let some = any_gives _ (filter (stands_in dir) left) long in of_standing some.0 some.1
    ]
  ]
    where
      of_standing : (name : FlatName) → Contains (filter (stands_in dir) left) name → Contains (objectids_left committed items blocks) dir
      of_standing name c = let found = filter_contains (stands_in dir) left name c in of_left dir name found.0 (eqb-true name.dir dir found.1)

  -- what breaks a rule is an objectid of the items or a directory of the names that replay leaves
  pub breaks_left : (ino : ℕ) (rule : LogRule) → does_break committed items blocks ino rule ≡ true → Contains (objectids_left committed items blocks) ino
  breaks_left ino StrayItem h = of_item ino (any_objectid items ino _ h)
  breaks_left ino LacksInode h = of_item ino (any_objectid items ino _ (and_parts _ _ h).0)
  breaks_left ino OtherKind h = of_item ino (value_objectid items ino _ h)
  breaks_left ino PastLimits h = of_item ino (limits_objectid items blocks ino h)
  breaks_left ino MoreThanExists h = of_item ino (value_objectid items ino _ h)
  breaks_left ino WrongExtents h = of_item ino (value_objectid items ino _ h)
  breaks_left ino RootNamed h = of_item ino (any_objectid items ino _ (and_parts _ _ h).1)
  breaks_left ino NamesClash h = clash_left ino h

  -- ---- broken rules

  abbrev breaks_at : ℕ → List (ℕ × LogRule)
  breaks_at ino = map (λ rule. (ino, rule)) (filter (does_break committed items blocks ino) all_rules)

  in_all : (rule : LogRule) → Contains all_rules rule
  in_all StrayItem = (0, omega arith, refl)
  in_all LacksInode = (1, omega arith, refl)
  in_all OtherKind = (2, omega arith, refl)
  in_all PastLimits = (3, omega arith, refl)
  in_all MoreThanExists = (4, omega arith, refl)
  in_all WrongExtents = (5, omega arith, refl)
  in_all RootNamed = (6, omega arith, refl)
  in_all NamesClash = (7, omega arith, refl)

  pub broken_has : (ino : ℕ) (rule : LogRule) → does_break committed items blocks ino rule ≡ true → Contains (broken_rules committed items blocks) (ino, rule)
  unfolding broken_rules
  broken_has ino rule h =
      flat_map_in breaks_at (objectids_left committed items blocks) ino (ino, rule) (breaks_left ino rule h)
      (map_in (λ (rule : LogRule). (ino, rule)) (filter (does_break committed items blocks ino) all_rules) rule (filter_in (does_break committed items blocks ino) all_rules rule (in_all rule) h))

  pub none_broken : broken_rules committed items blocks ≡ [] → (ino : ℕ) (rule : LogRule) → does_break committed items blocks ino rule ≡ false
  none_broken none ino rule = false_from_ne_true _ (λ h. in_nothing (ino, rule) (subst (λ (broken : List (ℕ × LogRule)). Contains broken (ino, rule)) none (broken_has ino rule h)))

  pub broken_none : ((ino : ℕ) (rule : LogRule) → does_break committed items blocks ino rule ≡ false) → broken_rules committed items blocks ≡ []
  unfolding broken_rules
  broken_none none = empties (objectids_left committed items blocks)
    where
      at_none : (ino : ℕ) → breaks_at ino ≡ []
      at_none ino =
          rw (none ino StrayItem, none ino LacksInode, none ino OtherKind, none ino PastLimits, none ino MoreThanExists, none ino WrongExtents, none ino RootNamed, none ino NamesClash) refl

      empties : (inos : List ℕ) → flat_map breaks_at inos ≡ []
      empties [] = refl
      empties (ino ∷ inos) = rw (at_none ino) (empties inos)
