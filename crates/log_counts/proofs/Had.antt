-- What the items of a log say, the flat log has.
use Rattle.std.proofs.Common.{◌≡◌, ◌≢◌, ◌<◌, ◌+◌, ◌/◌, ◌++◌, ◌⊎◌, ℕ, zero, suc, Bool, true, false, cond, List, [], ◌∷◌, map, filter, flat_map, find, Contains, Option, Some, Result, Ok, Ordering, Less, Equal, Greater, is_eq, nat_cmp, nat_eq, refl, sym, ap, subst, ◌∙◌, inl, inr, arith}
use Rattle.std.proofs.lemmas.Bool.{eqb-true}
use Rattle.std.proofs.lemmas.List.Elements.{Contains-append_left, Contains-append_right}
use Rattle.std.specs.Cmp.{IsTotalOrder, tied_itself, nat_cmp_total}
use Rattle.std.specs.Cmp.Lexicographic.{slice_cmp, nat_list_cmp_total}
use Rattle.std.specs.FinMap.{get, keys, entries, from_entries, get-from_entries, nat_cmp-IsAntisymmetric, slice_cmp-IsAntisymmetric, IsAntisymmetric}
use Rattle.std.specs.FinMap.Entries as tree
use Rattle.blk_base.specs.declared.fault.ItemFault.{ItemFault}
use Rattle.blk_base.specs.Keys.{inode_item, inode_ref, inode_extref, xattr_item, dir_index, dir_log_index, extent_data}
use Rattle.blk_base.specs.Leaf.{Item}
use Rattle.blk_base.specs.Items.{InodeValue, inode_value, file_mode, dir_mode, link_mode}
use Rattle.blk_base.specs.Extents.{ExtentValue, Inline, Regular, Hole, IsLogExtent, log_extent_of}
use Rattle.item_laws.specs.ExtentLaws.{log_extent_to}
use Rattle.flat_model.specs.Records.{InodeRecord}
use Rattle.flat_model.specs.Names.{FlatName}
use Rattle.logged_volume.specs.FlatLog.{LogRange, LogEntry, FlatLog, WholeInode}
use Rattle.logged_volume.specs.Weight.{logged_inodes}
use Rattle.logged_volume.proofs.Members.{number_set_has, name_set_has, key_is_in}
use Rattle.volume_image.specs.Subvolume.{Data, data_addresses}
use Rattle.volume_image.proofs.Lists.{in_nothing, in_cons}
use Rattle.volume_image.proofs.Reaches.{head_in, tail_in}
use Rattle.volume_image.proofs.Members.{in_map, map_in, filter_in, flat_map_in, get_in}
use Rattle.volume_image.proofs.Extents.{run_is_reached}
use Rattle.log_image.specs.LogItems.{AreItemsOfLog, HasItsExtents, asks_inode, read_or, is_at, value_of_item, inode_in, attributes_in, attribute_map, extents_in, extent_in_item, is_inline_extent, blocks_of_extent, holes_of_extent, run_blocks, block_there, names_in_item, names_in, ranges_in_item, entries_in_item, pairs_in_item, whole_by_mode, made_by_mode}
use Rattle.log_image.proofs.OneLog.{at_from}
use Rattle.log_image.proofs.Accepted.{SaidOnce, said_once_of}
use Rattle.log_image.proofs.Sayings.{said_by}
use Rattle.log_counts.proofs.Things.{Thing, AnInode, AName, ARange, AnEntry, AnAttribute, ARun, AHole, ATarget, extent_thing, things_of_item, things_whole, things_made, things_of_inode, things_of_log}

-- ---- found in lists and maps

find_has : {X : Type 0} (p : X → Bool) (xs : List X) (x : X) → Contains xs x → p x ≡ true → (y : X) × (find p xs ≡ Some y)
find_has p [] x c h = absurd (in_nothing x c)
find_has {X} p (y ∷ xs) x c h = go (λ d. find_has p xs x d h) (p y) refl
  where
    go : (Contains xs x → (z : X) × (find p xs ≡ Some z)) → (b : Bool) → p y ≡ b → (z : X) × (cond b (Some y) (find p xs) ≡ Some z)
    go later true e = (y, refl)
    go later false e = elim (in_cons y x xs c) [
      | inl here ↦ let same : p y ≡ true = ap p here ∙ h in absurd cc
      | inr there ↦ later there
    ]

module _ {K X : Type 0} {R : K → K → Ordering} (o : IsTotalOrder R) (same : IsAntisymmetric R) where
  entry_has : (es : List (K × X)) (k : K) (v : X) → Contains es (k, v) → (w : X) × (tree.find R k es ≡ Some w)
  entry_has [] k v c = absurd (in_nothing (k, v) c)
  entry_has (e ∷ es) k v c = go (entry_has es k v) (R k e.0) refl
    where
      go : (Contains es (k, v) → (w : X) × (tree.find R k es ≡ Some w)) → (r : Ordering) → R k e.0 ≡ r → (w : X) × (cond (is_eq r) (Some e.1) (tree.find R k es) ≡ Some w)
      go later Equal p = (e.1, refl)
      go later Less p = elim (in_cons e (k, v) es c) [
        | inl here ↦ let itself : R k k ≡ Less = ap (R k) (sym (ap (λ (z : K × X). z.0) here)) ∙ p in let equal = tied_itself o k in absurd cc
        | inr there ↦ later there
      ]
      go later Greater p = elim (in_cons e (k, v) es c) [
        | inl here ↦ let itself : R k k ≡ Greater = ap (R k) (sym (ap (λ (z : K × X). z.0) here)) ∙ p in let equal = tied_itself o k in absurd cc
        | inr there ↦ later there
      ]

  -- a key that stands in a list is one of the map's that is made of it
  key_has : (es : List (K × X)) (k : K) (v : X) → Contains es (k, v) → Contains (keys (from_entries {R = R} es)) k
  key_has es k v c =
      let found = entry_has es k v c in
      map_in (λ (e : K × X). e.0) (entries (from_entries {R = R} es)) (k, found.0) (get_in o same (from_entries es) k found.0 (get-from_entries o es k ∙ found.1))

bytes_one : IsAntisymmetric (slice_cmp nat_cmp)
bytes_one = slice_cmp-IsAntisymmetric nat_cmp-IsAntisymmetric

-- ---- in the log

extent_asks : (kind : ℕ) → kind ≡ extent_data → asks_inode kind ≡ true
extent_asks kind k = rw k refl

attribute_asks : (kind : ℕ) → kind ≡ xattr_item → asks_inode kind ≡ true
attribute_asks kind k = rw k refl

module _ (items : List Item) (blocks : Data) (log : FlatLog) (are : AreItemsOfLog items blocks log) where
  -- an inode that the items say is one of the log's
  logged_has : (ino : ℕ) (value : InodeValue) → inode_in items ino ≡ Some value → Contains (logged_inodes log) ino
  logged_has ino value e = number_set_has (keys log.whole ++ keys log.existing) ino (go (nat_eq value.generation 0) refl)
    where
      once : SaidOnce items blocks ino value
      once = said_once_of items blocks ino value e

      go : (g : Bool) → nat_eq value.generation 0 ≡ g → Contains (keys log.whole ++ keys log.existing) ino
      go true g =
          Contains-append_right (keys log.whole) (keys log.existing) ino
          (key_is_in log.existing ino (made_by_mode items ino value) (are.existing ino ∙ (once.bare (eqb-true value.generation 0 g)).1))
      go false g =
          Contains-append_left (keys log.whole) (keys log.existing) ino
          (key_is_in log.whole ino (whole_by_mode items blocks ino value) (are.whole ino ∙ (once.full g).0))

  -- what an inode has is in the log's
  of_inode : (ino : ℕ) (value : InodeValue) (thing : Thing) → inode_in items ino ≡ Some value → Contains (things_of_inode log ino) thing → Contains (things_of_log log) thing
  of_inode ino value thing e c =
      Contains-append_left (flat_map (things_of_inode log) (logged_inodes log) ++ map AName log.names ++ map ARange log.ranges) (map AnEntry log.entries) thing
      (Contains-append_left (flat_map (things_of_inode log) (logged_inodes log) ++ map AName log.names) (map ARange log.ranges) thing
      (Contains-append_left (flat_map (things_of_inode log) (logged_inodes log)) (map AName log.names) thing
      (flat_map_in (things_of_inode log) (logged_inodes log) ino thing (logged_has ino value e) c)))

  of_whole : (ino : ℕ) (value : InodeValue) (thing : Thing) → inode_in items ino ≡ Some value → nat_eq value.generation 0 ≡ false → Contains (things_whole ino (Some (whole_by_mode items blocks ino value))) thing → Contains (things_of_log log) thing
  of_whole ino value thing e g c =
      of_inode ino value thing e
      (tail_in (AnInode ino) thing (things_made ino (get log.existing ino) ++ things_whole ino (get log.whole ino))
      (Contains-append_right (things_made ino (get log.existing ino)) (things_whole ino (get log.whole ino)) thing
      (subst (λ (w : Option WholeInode). Contains (things_whole ino w) thing) (sym (are.whole ino ∙ ((said_once_of items blocks ino value e).full g).0)) c)))

  of_made : (ino : ℕ) (value : InodeValue) (thing : Thing) → inode_in items ino ≡ Some value → value.generation ≡ 0 → Contains (things_made ino (Some (made_by_mode items ino value))) thing → Contains (things_of_log log) thing
  of_made ino value thing e g c =
      of_inode ino value thing e
      (tail_in (AnInode ino) thing (things_made ino (get log.existing ino) ++ things_whole ino (get log.whole ino))
      (Contains-append_left (things_made ino (get log.existing ino)) (things_whole ino (get log.whole ino)) thing
      (subst (λ (m : Option InodeRecord). Contains (things_made ino m) thing) (sym (are.existing ino ∙ ((said_once_of items blocks ino value e).bare g).1)) c)))

  mode_is : (ino : ℕ) (value : InodeValue) → inode_in items ino ≡ Some value → (value.mode ≡ file_mode) ⊎ (value.mode ≡ dir_mode) ⊎ (value.mode ≡ link_mode)
  mode_is ino value e =
      let by = said_by items ino value e in
      let spelled = (are.only by.item.0 by.item.1 by.there).spelled.inode by.kind in
      let same : spelled.0.mode ≡ value.mode = ap (λ (v : InodeValue). v.mode) (sym spelled.1.value ∙ sym by.says) in
      subst (λ (mode : ℕ). (mode ≡ file_mode) ⊎ (mode ≡ dir_mode) ⊎ (mode ≡ link_mode)) same spelled.1.mode

  -- ---- by types

  inode_had : (item : Item) → Contains items item → item.0.kind ≡ inode_item → Contains (things_of_log log) (AnInode item.0.objectid)
  inode_had item c k =
      let found = find_has (is_at item.0.objectid inode_item) items item c (at_from item.0.objectid inode_item item refl k) in
      of_inode item.0.objectid (inode_value found.0.1) (AnInode item.0.objectid) (ap value_of_item found.1)
      (head_in (AnInode item.0.objectid) (things_made item.0.objectid (get log.existing item.0.objectid) ++ things_whole item.0.objectid (get log.whole item.0.objectid)))

  name_had : (item : Item) (name : FlatName) → Contains items item → Contains (names_in_item item) name → Contains (things_of_log log) (AName name)
  name_had item name c d =
      let named : Contains log.names name = subst (λ (names : List FlatName). Contains names name) (sym are.names) (name_set_has (names_in items) name (flat_map_in names_in_item items item name c d)) in
      Contains-append_left (flat_map (things_of_inode log) (logged_inodes log) ++ map AName log.names ++ map ARange log.ranges) (map AnEntry log.entries) (AName name)
      (Contains-append_left (flat_map (things_of_inode log) (logged_inodes log) ++ map AName log.names) (map ARange log.ranges) (AName name)
      (Contains-append_right (flat_map (things_of_inode log) (logged_inodes log)) (map AName log.names) (AName name) (map_in AName log.names name named)))

  range_had : (item : Item) (range : LogRange) → Contains items item → Contains (ranges_in_item item) range → Contains (things_of_log log) (ARange range)
  range_had item range c d =
      let had : Contains log.ranges range = subst (λ (ranges : List LogRange). Contains ranges range) (sym are.ranges) (flat_map_in ranges_in_item items item range c d) in
      Contains-append_left (flat_map (things_of_inode log) (logged_inodes log) ++ map AName log.names ++ map ARange log.ranges) (map AnEntry log.entries) (ARange range)
      (Contains-append_right (flat_map (things_of_inode log) (logged_inodes log) ++ map AName log.names) (map ARange log.ranges) (ARange range) (map_in ARange log.ranges range had))

  entry_had : (item : Item) (entry : LogEntry) → Contains items item → Contains (entries_in_item item) entry → Contains (things_of_log log) (AnEntry entry)
  entry_had item entry c d =
      let had : Contains log.entries entry = subst (λ (es : List LogEntry). Contains es entry) (sym are.entries) (flat_map_in entries_in_item items item entry c d) in
      Contains-append_right (flat_map (things_of_inode log) (logged_inodes log) ++ map AName log.names ++ map ARange log.ranges) (map AnEntry log.entries) (AnEntry entry) (map_in AnEntry log.entries entry had)

  attribute_had : (item : Item) (pair : List ℕ × List ℕ) → Contains items item → item.0.kind ≡ xattr_item → Contains (pairs_in_item item) pair → Contains (things_of_log log) (AnAttribute item.0.objectid pair.0)
  attribute_had item pair c k d =
      go (nat_eq said.0.generation 0) refl
    where
      ino : ℕ
      ino = item.0.objectid

      said : (value : InodeValue) × (inode_in items item.0.objectid ≡ Some value)
      said = are.has_inode item.0 item.1 c (attribute_asks item.0.kind k)

      among : Contains (attributes_in items item.0.objectid) pair
      among = flat_map_in pairs_in_item (filter (is_at item.0.objectid xattr_item) items) item pair (filter_in (is_at item.0.objectid xattr_item) items item c (at_from item.0.objectid xattr_item item refl k)) d

      key : Contains (keys (attribute_map items item.0.objectid)) pair.0
      key = key_has nat_list_cmp_total bytes_one (attributes_in items item.0.objectid) pair.0 pair.1 among

      thing : Contains (map (AnAttribute item.0.objectid) (keys (attribute_map items item.0.objectid))) (AnAttribute item.0.objectid pair.0)
      thing = map_in (AnAttribute item.0.objectid) (keys (attribute_map items item.0.objectid)) pair.0 key

      in_whole : (a : Bool) → nat_eq said.0.mode file_mode ≡ a → (b : Bool) → nat_eq said.0.mode dir_mode ≡ b
          → Contains (things_whole item.0.objectid (Some (whole_by_mode items blocks item.0.objectid said.0))) (AnAttribute item.0.objectid pair.0)
      in_whole true a b eb = rw a (Contains-append_left _ _ (AnAttribute item.0.objectid pair.0) (Contains-append_left _ _ (AnAttribute item.0.objectid pair.0) thing))
      in_whole false a true b = rw (a, b) thing
      in_whole false a false b = rw (a, b) (Contains-append_left _ _ (AnAttribute item.0.objectid pair.0) thing)

      go : (g : Bool) → nat_eq said.0.generation 0 ≡ g → Contains (things_of_log log) (AnAttribute item.0.objectid pair.0)
      go true g = absurd (in_nothing pair (subst (λ (pairs : List (List ℕ × List ℕ)). Contains pairs pair) (are.bare item.0.objectid said.0 said.1 (eqb-true said.0.generation 0 g)) among))
      go false g = of_whole item.0.objectid said.0 (AnAttribute item.0.objectid pair.0) said.1 g (in_whole (nat_eq said.0.mode file_mode) refl (nat_eq said.0.mode dir_mode) refl)

  -- ---- extents

  module _ (item : Item) (c : Contains items item) (k : item.0.kind ≡ extent_data) where
    said : (value : InodeValue) × (inode_in items item.0.objectid ≡ Some value)
    said = are.has_inode item.0 item.1 c (extent_asks item.0.kind k)

    among : (value : ExtentValue) → log_extent_of item.0 item.1 ≡ Ok value → Contains (extents_in items item.0.objectid) (item.0.offset, value)
    among value e =
        subst (λ (r : Result ExtentValue ItemFault). Contains (extents_in items item.0.objectid) (item.0.offset, read_or (Inline []) r)) e
        (map_in extent_in_item (filter (is_at item.0.objectid extent_data) items) item (filter_in (is_at item.0.objectid extent_data) items item c (at_from item.0.objectid extent_data item refl k)))

    has : HasItsExtents said.0 (extents_in items item.0.objectid)
    has = are.extents item.0.objectid said.0 said.1

    none_here : (value : ExtentValue) → Contains (extents_in items item.0.objectid) (item.0.offset, value) → extents_in items item.0.objectid ≡ [] → ⊥
    none_here value d e = in_nothing (item.0.offset, value) (subst (λ (xs : List (ℕ × ExtentValue)). Contains xs (item.0.offset, value)) e d)

    -- an extent that isn't inline is a whole file's
    of_file : (value : ExtentValue) → log_extent_of item.0 item.1 ≡ Ok value → is_inline_extent (item.0.offset, value) ≡ false → (said.0.mode ≡ file_mode) × (nat_eq said.0.generation 0 ≡ false)
    of_file value e outside = elim (mode_is item.0.objectid said.0 said.1) [
      | inl file ↦ (file, full (nat_eq said.0.generation 0) refl (λ m. let wrong : file_mode ≡ link_mode = sym file ∙ m in omega arith))
      | inr (inl dir) ↦ absurd (none_here value (among value e) (has.dir dir))
      | inr (inr link) ↦
          let one = has.link link in
          elim (in_cons one.0 (item.0.offset, value) [] (subst (λ (xs : List (ℕ × ExtentValue)). Contains xs (item.0.offset, value)) one.1 (among value e))) [
            | inl here ↦ let inside : is_inline_extent (item.0.offset, value) ≡ true = ap is_inline_extent (sym here) ∙ one.2 in absurd cc
            | inr none ↦ absurd (in_nothing (item.0.offset, value) none)
          ]
    ]
      where
        full : (g : Bool) → nat_eq said.0.generation 0 ≡ g → said.0.mode ≢ link_mode → nat_eq said.0.generation 0 ≡ false
        full true g other = absurd (none_here value (among value e) (has.bare (eqb-true said.0.generation 0 g) other))
        full false g other = g

    -- an inline extent is a symlink's
    of_link : (content : List ℕ) → log_extent_of item.0 item.1 ≡ Ok (Inline content) → said.0.mode ≡ link_mode
    of_link content e = elim (mode_is item.0.objectid said.0 said.1) [
      | inl file ↦ let outside = has.file file (item.0.offset, Inline content) (among (Inline content) e) in absurd cc
      | inr (inl dir) ↦ absurd (none_here (Inline content) (among (Inline content) e) (has.dir dir))
      | inr (inr link) ↦ link
    ]

    abbrev attributes : List Thing
    attributes = map (AnAttribute item.0.objectid) (keys (attribute_map items item.0.objectid))

    abbrev numbers : List ℕ
    numbers = keys (from_entries {R = nat_cmp} (flat_map (blocks_of_extent blocks) (extents_in items item.0.objectid)))

    abbrev runs : List Thing
    runs = map (ARun item.0.objectid) numbers

    abbrev holes : List Thing
    holes = map (λ (hole : ℕ × ℕ). AHole item.0.objectid hole.0 hole.1) (flat_map holes_of_extent (extents_in items item.0.objectid))

    file_things : said.0.mode ≡ file_mode → things_whole item.0.objectid (Some (whole_by_mode items blocks item.0.objectid said.0)) ≡ attributes ++ runs ++ holes
    file_things m = rw m refl

    link_things : said.0.mode ≡ link_mode → things_whole item.0.objectid (Some (whole_by_mode items blocks item.0.objectid said.0)) ≡ attributes ++ ATarget item.0.objectid ∷ []
    link_things m = rw m refl

    link_made : said.0.mode ≡ link_mode → things_made item.0.objectid (Some (made_by_mode items item.0.objectid said.0)) ≡ ATarget item.0.objectid ∷ []
    link_made m = rw m refl

    run_had : (at offset len : ℕ) → IsLogExtent item.0 item.1 (Regular at offset len) → log_extent_of item.0 item.1 ≡ Ok (Regular at offset len) → Contains (things_of_log log) (ARun item.0.objectid (item.0.offset / 4096))
    run_had at offset len says e =
        let file = of_file (Regular at offset len) e refl in
        let run = says.9 in
        let least = run.1 in
        let some : 0 < len / 4096 = omega arith in
        let block = are.blocks_there at (subst (λ (x : ℕ). Contains (data_addresses items) x) (omega arith) (run_is_reached items item.0 item.1 at offset len 0 c k says some)) in
        let first = first_block (item.0.offset / 4096) at (len / 4096) block.0 block.1 some in
        let pair = flat_map_in (blocks_of_extent blocks) (extents_in items item.0.objectid) (item.0.offset, Regular at offset len) (item.0.offset / 4096, block.0) (among (Regular at offset len) e) first in
        let key = key_has nat_cmp_total nat_cmp-IsAntisymmetric (flat_map (blocks_of_extent blocks) (extents_in items item.0.objectid)) (item.0.offset / 4096) block.0 pair in
        of_whole item.0.objectid said.0 (ARun item.0.objectid (item.0.offset / 4096)) said.1 file.1
        (subst (λ (things : List Thing). Contains things (ARun item.0.objectid (item.0.offset / 4096))) (sym (file_things file.0))
        (Contains-append_left (attributes ++ runs) holes (ARun item.0.objectid (item.0.offset / 4096))
        (Contains-append_right attributes runs (ARun item.0.objectid (item.0.offset / 4096)) (map_in (ARun item.0.objectid) numbers (item.0.offset / 4096) key))))
      where
        first_block : (number at count : ℕ) (bytes : List ℕ) → blocks at ≡ Some bytes → 0 < count → Contains (run_blocks blocks number at count) (number, bytes)
        first_block number at zero bytes there some = absurd (omega arith)
        first_block number at (suc count) bytes there some =
            Contains-append_left (block_there number (blocks at)) (run_blocks blocks (number + 1) (at + 4096) count) (number, bytes)
            (subst (λ (b : Option (List ℕ)). Contains (block_there number b) (number, bytes)) (sym there) (head_in (number, bytes) []))

    hole_had : (len : ℕ) → log_extent_of item.0 item.1 ≡ Ok (Hole len) → Contains (things_of_log log) (AHole item.0.objectid (item.0.offset / 4096) (len / 4096))
    hole_had len e =
        let file = of_file (Hole len) e refl in
        let hole : ℕ × ℕ = (item.0.offset / 4096, len / 4096) in
        let there = flat_map_in holes_of_extent (extents_in items item.0.objectid) (item.0.offset, Hole len) hole (among (Hole len) e) (head_in hole []) in
        of_whole item.0.objectid said.0 (AHole item.0.objectid (item.0.offset / 4096) (len / 4096)) said.1 file.1
        (subst (λ (things : List Thing). Contains things (AHole item.0.objectid (item.0.offset / 4096) (len / 4096))) (sym (file_things file.0))
        (Contains-append_right (attributes ++ runs) holes (AHole item.0.objectid (item.0.offset / 4096) (len / 4096)) (map_in (λ (hole : ℕ × ℕ). AHole item.0.objectid hole.0 hole.1) (flat_map holes_of_extent (extents_in items item.0.objectid)) hole there)))

    target_had : (content : List ℕ) → log_extent_of item.0 item.1 ≡ Ok (Inline content) → Contains (things_of_log log) (ATarget item.0.objectid)
    target_had content e = let link = of_link content e in go link (nat_eq said.0.generation 0) refl
      where
        go : said.0.mode ≡ link_mode → (g : Bool) → nat_eq said.0.generation 0 ≡ g → Contains (things_of_log log) (ATarget item.0.objectid)
        go link true g =
            of_made item.0.objectid said.0 (ATarget item.0.objectid) said.1 (eqb-true said.0.generation 0 g)
            (subst (λ (things : List Thing). Contains things (ATarget item.0.objectid)) (sym (link_made link)) (head_in (ATarget item.0.objectid) []))
        go link false g =
            of_whole item.0.objectid said.0 (ATarget item.0.objectid) said.1 g
            (subst (λ (things : List Thing). Contains things (ATarget item.0.objectid)) (sym (link_things link))
            (Contains-append_right attributes (ATarget item.0.objectid ∷ []) (ATarget item.0.objectid) (head_in (ATarget item.0.objectid) [])))

    extent_had : Contains (things_of_log log) (extent_thing item.0.objectid (extent_in_item item))
    extent_had =
        let value = (are.only item.0 item.1 c).spelled.extent k in
        let e = log_extent_to item.0 item.1 value.0 value.1 in
        subst (λ (r : Result ExtentValue ItemFault). Contains (things_of_log log) (extent_thing item.0.objectid (item.0.offset, read_or (Inline []) r))) (sym e) (go value.0 value.1 e)
      where
        go : (value : ExtentValue) → IsLogExtent item.0 item.1 value → log_extent_of item.0 item.1 ≡ Ok value → Contains (things_of_log log) (extent_thing item.0.objectid (item.0.offset, value))
        go (Inline content) says e = target_had content e
        go (Regular at offset len) says e = run_had at offset len says e
        go (Hole len) says e = hole_had len e

  -- ---- all

  thing_had : (item : Item) (thing : Thing) → Contains items item → Contains (things_of_item item) thing → Contains (things_of_log log) thing
  thing_had item thing c d =
      go (nat_eq item.0.kind inode_item) refl (nat_eq item.0.kind inode_ref) refl (nat_eq item.0.kind inode_extref) refl (nat_eq item.0.kind xattr_item) refl
      (nat_eq item.0.kind dir_index) refl (nat_eq item.0.kind dir_log_index) refl (nat_eq item.0.kind extent_data) refl d
    where
      of_names : Contains (map AName (names_in_item item)) thing → Contains (things_of_log log) thing
      of_names d = let found = in_map AName (names_in_item item) thing d in subst (λ (t : Thing). Contains (things_of_log log) t) found.2 (name_had item found.0 c found.1)

      go : (a : Bool) → nat_eq item.0.kind inode_item ≡ a → (b : Bool) → nat_eq item.0.kind inode_ref ≡ b → (x : Bool) → nat_eq item.0.kind inode_extref ≡ x → (y : Bool) → nat_eq item.0.kind xattr_item ≡ y
          → (z : Bool) → nat_eq item.0.kind dir_index ≡ z → (u : Bool) → nat_eq item.0.kind dir_log_index ≡ u → (v : Bool) → nat_eq item.0.kind extent_data ≡ v
          → Contains (cond a (AnInode item.0.objectid ∷ []) (cond b (map AName (names_in_item item)) (cond x (map AName (names_in_item item))
          (cond y (map (λ (pair : List ℕ × List ℕ). AnAttribute item.0.objectid pair.0) (pairs_in_item item)) (cond z (map AnEntry (entries_in_item item))
          (cond u (map ARange (ranges_in_item item)) (cond v (extent_thing item.0.objectid (extent_in_item item) ∷ []) []))))))) thing
          → Contains (things_of_log log) thing
      go true a b eb x ex y ey z ez u eu v ev d = elim (in_cons (AnInode item.0.objectid) thing [] d) [
        | inl here ↦ subst (λ (t : Thing). Contains (things_of_log log) t) here (inode_had item c (eqb-true item.0.kind inode_item a))
        | inr none ↦ absurd (in_nothing thing none)
      ]
      go false a true b x ex y ey z ez u eu v ev d = of_names d
      go false a false b true x y ey z ez u eu v ev d = of_names d
      go false a false b false x true y z ez u eu v ev d =
          let found = in_map (λ (pair : List ℕ × List ℕ). AnAttribute item.0.objectid pair.0) (pairs_in_item item) thing d in
          subst (λ (t : Thing). Contains (things_of_log log) t) found.2 (attribute_had item found.0 c (eqb-true item.0.kind xattr_item y) found.1)
      go false a false b false x false y true z u eu v ev d =
          let found = in_map AnEntry (entries_in_item item) thing d in subst (λ (t : Thing). Contains (things_of_log log) t) found.2 (entry_had item found.0 c found.1)
      go false a false b false x false y false z true u v ev d =
          let found = in_map ARange (ranges_in_item item) thing d in subst (λ (t : Thing). Contains (things_of_log log) t) found.2 (range_had item found.0 c found.1)
      go false a false b false x false y false z false u true v d = elim (in_cons (extent_thing item.0.objectid (extent_in_item item)) thing [] d) [
        | inl here ↦ subst (λ (t : Thing). Contains (things_of_log log) t) here (extent_had item c (eqb-true item.0.kind extent_data v))
        | inr none ↦ absurd (in_nothing thing none)
      ]
      go false a false b false x false y false z false u false v d = absurd (in_nothing thing d)

pub things_had : (items : List Item) (blocks : Data) (log : FlatLog) → AreItemsOfLog items blocks log → (item : Item) (thing : Thing) → Contains items item → Contains (things_of_item item) thing → Contains (things_of_log log) thing
things_had items blocks log are item thing c d = thing_had items blocks log are item thing c d
