-- The ranges of a directory by the items of two trees are those of the subvolumes that the trees give.
use Rattle.std.proofs.Common.{◌≡◌, ◌^◌, ◌&&◌, ◌++◌, ◌∙◌, ℕ, Bool, true, cond, List, [], ◌∷◌, Contains, Option, Some, None, Result, Ok, bytes_eq, filter, map, nat_eq, nat_le, nat_lt, length, ap, refl, sym, subst, inl, inr, arith}
use Rattle.std.specs.List.{list_any}
use Rattle.std.proofs.lemmas.Bool.{and_from, and_parts, eq-eqb, eqb-true, true≢false}
use Rattle.std.proofs.lemmas.List.Elements.{Contains-append_cases, Contains-append_left, Contains-append_right}
use Rattle.std.proofs.lemmas.List.{map-append}
use Rattle.std.proofs.lemmas.List.Sorted.{Contains-permutation}
use Rattle.blk_base.specs.declared.fault.ItemFault.{ItemFault}
use Rattle.blk_base.specs.declared.key.Key.{Key}
use Rattle.blk_base.specs.Entries.{EntryValue, entries_of}
use Rattle.blk_base.specs.Keys.{dir_index}
use Rattle.blk_base.specs.Leaf.{Item}
use Rattle.block_table.specs.declared.tree.Tree.{Tree}
use Rattle.block_table.specs.Table.{Table}
use Rattle.flat_model.specs.Names.{FlatName, stands_in}
use Rattle.flat_model.specs.Volume.{Subvolume}
use Rattle.item_laws.specs.Directories.{entries_to}
use Rattle.logged_volume.specs.Agreement.{has_unmarked, is_same_unmarked}
use Rattle.logged_volume.specs.Numbers.{gaps, gaps_with, is_met, number_set}
use Rattle.logged_volume.specs.Written.{all_indexes, unchanged_indexes}
use Rattle.logged_volume.proofs.Members.{any_from, any_gives, is_set_number_set, number_set_gives, number_set_has, same_number_set}
use Rattle.log_image.specs.LogItems.{read_or}
use Rattle.name_walk.specs.Given.{GivesCoherent}
use Rattle.name_walk.proofs.InSlots.{bytes_same, same_bytes}
use Rattle.table_volume.specs.Gives.{data_in}
use Rattle.tree_range.specs.Between.{data_under}
use Rattle.tree_range.specs.Shape.{tree_items}
use Rattle.tree_range.proofs.Found.{contains_under, under_contains}
use Rattle.volume_image.specs.Subvolume.{HasEntries, entry_of, indexed_asked, make_key, without_transid}
use Rattle.volume_image.proofs.Asked.{asked_indexed}
use Rattle.volume_image.proofs.Members.{filter_in, in_filter, in_map, map_in, not_empty}
use Rattle.volume_image.proofs.Reaches.{head_in}
use Rattle.dir_ranges.specs.Indexes.{TreesSayRanges, all_in, are_alike, entry_at, first_of, index_of, indexes_between, is_alike_under, is_unchanged, last_index, range_in, unchanged_from}
use Rattle.dir_ranges.proofs.Between.{between_gives, between_has, same_truth}

-- ---- one tree

-- the item at an index says this name
pub record IsNamed (sub : Subvolume) (dir index : ℕ) (bytes : List ℕ) : Type 0 where
  pub name : FlatName
  pub there : Contains sub.names name
  pub dir_is : name.dir ≡ dir
  pub index_is : name.index ≡ index
  pub entry : EntryValue
  pub read : entry_at bytes ≡ Some entry
  pub bytes_are : entry.name ≡ name.bytes
  pub ino_is : entry.target.objectid ≡ name.ino

module _ (table : Table) (tree : Tree) (sub : Subvolume) (given : GivesCoherent table tree sub) where
  abbrev items : List Item
  items = tree_items table tree

  pub named : (dir index : ℕ) (bytes : List ℕ) → Contains items (make_key dir dir_index index, bytes) → IsNamed sub dir index bytes
  named dir index bytes c = go asked.found (entries_to dir_index bytes asked.found asked.spelled) (asked.spelled.single refl) (λ entry d. Contains-permutation (map without_transid asked.found) (indexed_asked sub dir index) (without_transid entry) asked.same (map_in without_transid asked.found entry d))
    where
      asked : HasEntries dir_index bytes (indexed_asked sub dir index)
      asked = asked_indexed sub (data_in table) (make_key dir dir_index index) bytes refl (given.gives.items.only (make_key dir dir_index index) bytes c)

      go : (found : List EntryValue) → entries_of dir_index bytes ≡ Ok found → length found ≡ 1 → ((entry : EntryValue) → Contains found entry → Contains (indexed_asked sub dir index) (without_transid entry)) → IsNamed sub dir index bytes
      go [] read one each = absurd (omega (arith, one))
      go (x ∷ y ∷ rest) read one each = absurd (omega (arith, one))
      go (entry ∷ []) read one each =
          let at = in_map (entry_of sub) (filter (λ name. nat_eq name.dir dir && nat_eq name.index index) sub.names) (without_transid entry) (each entry (head_in entry [])) in
          let kept = in_filter (λ (name : FlatName). nat_eq name.dir dir && nat_eq name.index index) sub.names at.0 at.1 in
          let parts = and_parts (nat_eq at.0.dir dir) (nat_eq at.0.index index) kept.1 in
          record {
            name = at.0;
            there = kept.0;
            dir_is = eqb-true at.0.dir dir parts.0;
            index_is = eqb-true at.0.index index parts.1;
            entry = entry;
            read = ap (λ (r : Result (List EntryValue) ItemFault). first_of (read_or [] r)) read;
            bytes_are = ap (λ (e : EntryValue). e.name) (sym at.2);
            ino_is = ap (λ (e : EntryValue). e.target.objectid) (sym at.2);
          }

  pub placed : (name : FlatName) → Contains sub.names name → (bytes : List ℕ) × Contains items (make_key name.dir dir_index name.index, bytes)
  placed name c =
      given.gives.items.indexed name.dir name.index
      (not_empty (entry_of sub name) (indexed_asked sub name.dir name.index)
      (map_in (entry_of sub) (filter (λ other. nat_eq other.dir name.dir && nat_eq other.index name.index) sub.names) name
      (filter_in (λ other. nat_eq other.dir name.dir && nat_eq other.index name.index) sub.names name c (and_from (nat_eq name.dir name.dir) (nat_eq name.index name.index) (eq-eqb name.dir name.dir refl) (eq-eqb name.index name.index refl)))))

  -- an item of the directory's indexes has the key of its index
  pub keyed : (dir : ℕ) (item : Item) → Contains (indexes_between dir 0 last_index items) item → Contains items (make_key dir dir_index item.0.offset, item.1) × (item.0 ≡ make_key dir dir_index item.0.offset)
  keyed dir item c =
      let there = between_gives dir 0 last_index items item c in
      let key : item.0 ≡ make_key dir dir_index item.0.offset = λ k. record { objectid = there.1.objectid k; kind = there.1.kind k; offset = item.0.offset } in
      (subst (λ (key : Key). Contains items (key, item.1)) key there.0, key)

  pub index_named : (dir index : ℕ) → Contains (map index_of (indexes_between dir 0 last_index items)) index → (name : FlatName) × Contains sub.names name × (name.dir ≡ dir) × (name.index ≡ index)
  index_named dir index c =
      let item = in_map index_of (indexes_between dir 0 last_index items) index c in
      let is = named dir item.0.0.offset item.0.1 (keyed dir item.0 item.1).0 in
      (is.name, is.there, is.dir_is, is.index_is ∙ item.2)

  pub item_between : (dir : ℕ) (name : FlatName) → Contains sub.names name → name.dir ≡ dir → (bytes : List ℕ) × Contains (indexes_between dir 0 last_index items) (make_key dir dir_index name.index, bytes)
  item_between dir name c in_dir =
      let at = placed name c in
      let numbers = given.coherent.index_numbers name c in
      let there : Contains items (make_key dir dir_index name.index, at.0) = subst (λ (d : ℕ). Contains items (make_key d dir_index name.index, at.0)) in_dir at.1 in
      (at.0, between_has dir 0 last_index items (make_key dir dir_index name.index, at.0) there (record { objectid = refl; kind = refl; from = omega arith; to = omega (arith, numbers.1) }))

  pub named_index : (dir : ℕ) (name : FlatName) → Contains sub.names name → name.dir ≡ dir → Contains (map index_of (indexes_between dir 0 last_index items)) name.index
  named_index dir name c in_dir =
      let at = item_between dir name c in_dir in
      map_in index_of (indexes_between dir 0 last_index items) (make_key dir dir_index name.index, at.0) at.1

-- ---- two trees

module _ (table : Table) (committed current : Tree) (one two : Subvolume) (dir : ℕ) (given : GivesCoherent table committed one) (now : GivesCoherent table current two) where
  abbrev olds : List Item
  olds = tree_items table committed

  abbrev news : List Item
  news = tree_items table current

  -- an index is unchanged exactly where the other subvolume has the name too
  unchanged_is : (index : ℕ) (bytes : List ℕ) (is : IsNamed one dir index bytes) → is_unchanged news (make_key dir dir_index index, bytes) ≡ has_unmarked two.names is.name
  unchanged_is index bytes is = same_truth (is_unchanged news (make_key dir dir_index index, bytes)) (has_unmarked two.names is.name) to from
    where
      to : is_unchanged news (make_key dir dir_index index, bytes) ≡ true → has_unmarked two.names is.name ≡ true
      to e = go (data_under (make_key dir dir_index index) news) refl
        where
          go : (o : Option (List ℕ)) → data_under (make_key dir dir_index index) news ≡ o → has_unmarked two.names is.name ≡ true
          go None none = absurd (true≢false (sym e ∙ ap (λ (o : Option (List ℕ)). is_alike_under o bytes) none))
          go (Some other) some =
              let that = named table current two now dir index other (contains_under news (make_key dir dir_index index) other some) in
              let alike : (bytes_eq is.entry.name that.entry.name && nat_eq is.entry.target.objectid that.entry.target.objectid) ≡ true =
              sym (ap (λ (o : Option (List ℕ)). is_alike_under o bytes) some ∙ ap (λ (o : Option EntryValue). are_alike o (entry_at other)) is.read ∙ ap (are_alike (Some is.entry)) that.read) ∙ e in
              let parts = and_parts (bytes_eq is.entry.name that.entry.name) (nat_eq is.entry.target.objectid that.entry.target.objectid) alike in
              let content : is.name.bytes ≡ that.name.bytes = sym is.bytes_are ∙ same_bytes is.entry.name that.entry.name parts.0 ∙ that.bytes_are in
              let ino : is.name.ino ≡ that.name.ino = sym is.ino_is ∙ eqb-true is.entry.target.objectid that.entry.target.objectid parts.1 ∙ that.ino_is in
              any_from (is_same_unmarked is.name) two.names that.name that.there
              (and_from (nat_eq is.name.dir that.name.dir) (nat_eq is.name.index that.name.index && (bytes_eq is.name.bytes that.name.bytes && nat_eq is.name.ino that.name.ino)) (eq-eqb is.name.dir that.name.dir (is.dir_is ∙ sym that.dir_is))
              (and_from (nat_eq is.name.index that.name.index) (bytes_eq is.name.bytes that.name.bytes && nat_eq is.name.ino that.name.ino) (eq-eqb is.name.index that.name.index (is.index_is ∙ sym that.index_is))
              (and_from (bytes_eq is.name.bytes that.name.bytes) (nat_eq is.name.ino that.name.ino) (bytes_same is.name.bytes that.name.bytes content) (eq-eqb is.name.ino that.name.ino ino))))

      from : has_unmarked two.names is.name ≡ true → is_unchanged news (make_key dir dir_index index, bytes) ≡ true
      from e =
          let found = any_gives (is_same_unmarked is.name) two.names e in
          let first = and_parts (nat_eq is.name.dir found.0.dir) (nat_eq is.name.index found.0.index && (bytes_eq is.name.bytes found.0.bytes && nat_eq is.name.ino found.0.ino)) found.2 in
          let second = and_parts (nat_eq is.name.index found.0.index) (bytes_eq is.name.bytes found.0.bytes && nat_eq is.name.ino found.0.ino) first.1 in
          let third = and_parts (bytes_eq is.name.bytes found.0.bytes) (nat_eq is.name.ino found.0.ino) second.1 in
          let in_dir : found.0.dir ≡ dir = sym (eqb-true is.name.dir found.0.dir first.0) ∙ is.dir_is in
          let at_index : found.0.index ≡ index = sym (eqb-true is.name.index found.0.index second.0) ∙ is.index_is in
          let at = placed table current two now found.0 found.1 in
          let key : make_key found.0.dir dir_index found.0.index ≡ make_key dir dir_index index = λ k. record { objectid = in_dir k; kind = dir_index; offset = at_index k } in
          let there : Contains news (make_key dir dir_index index, at.0) = subst (λ (key : Key). Contains news (key, at.0)) key at.1 in
          let that = named table current two now dir index at.0 there in
          let same : that.name ≡ found.0 = now.coherent.no_index_twice that.name found.0 that.there found.1 (that.dir_is ∙ sym in_dir) (that.index_is ∙ sym at_index) in
          let content : is.entry.name ≡ that.entry.name = is.bytes_are ∙ same_bytes is.name.bytes found.0.bytes third.0 ∙ ap (λ (n : FlatName). n.bytes) (sym same) ∙ sym that.bytes_are in
          let ino : is.entry.target.objectid ≡ that.entry.target.objectid = is.ino_is ∙ eqb-true is.name.ino found.0.ino third.1 ∙ ap (λ (n : FlatName). n.ino) (sym same) ∙ sym that.ino_is in
          let under : data_under (make_key dir dir_index index) news ≡ Some at.0 = under_contains news (make_key dir dir_index index) at.0 there.0 now.gives.tree_in.order there.1 there.2 in
          ap (λ (o : Option (List ℕ)). is_alike_under o bytes) under ∙ ap (λ (o : Option EntryValue). are_alike o (entry_at at.0)) is.read ∙ ap (are_alike (Some is.entry)) that.read
          ∙ and_from (bytes_eq is.entry.name that.entry.name) (nat_eq is.entry.target.objectid that.entry.target.objectid) (bytes_same is.entry.name that.entry.name content) (eq-eqb is.entry.target.objectid that.entry.target.objectid ino)

  abbrev keeps : FlatName → Bool
  keeps name = stands_in dir name && has_unmarked two.names name

  unchanged_to : (index : ℕ) → Contains (unchanged_from olds news dir 0) index → Contains (unchanged_indexes one two dir) index
  unchanged_to index c =
      let at = in_map index_of (filter (is_unchanged news) (indexes_between dir 0 last_index olds)) index c in
      let kept = in_filter (is_unchanged news) (indexes_between dir 0 last_index olds) at.0 at.1 in
      let key = keyed table committed one given dir at.0 kept.0 in
      let is = named table committed one given dir at.0.0.offset at.0.1 key.0 in
      let unchanged : has_unmarked two.names is.name ≡ true = sym (unchanged_is at.0.0.offset at.0.1 is) ∙ ap (λ (k : Key). is_unchanged news (k, at.0.1)) (sym key.1) ∙ kept.1 in
      subst (Contains (unchanged_indexes one two dir)) (is.index_is ∙ at.2)
      (map_in (λ (name : FlatName). name.index) (filter keeps one.names) is.name
      (filter_in keeps one.names is.name is.there (and_from (stands_in dir is.name) (has_unmarked two.names is.name) (eq-eqb is.name.dir dir is.dir_is) unchanged)))

  unchanged_back : (index : ℕ) → Contains (unchanged_indexes one two dir) index → Contains (unchanged_from olds news dir 0) index
  unchanged_back index c =
      let at = in_map (λ (name : FlatName). name.index) (filter keeps one.names) index c in
      let kept = in_filter keeps one.names at.0 at.1 in
      let parts = and_parts (stands_in dir at.0) (has_unmarked two.names at.0) kept.1 in
      let in_dir = eqb-true at.0.dir dir parts.0 in
      let item = item_between table committed one given dir at.0 kept.0 in_dir in
      let is = named table committed one given dir at.0.index item.0 (keyed table committed one given dir (make_key dir dir_index at.0.index, item.0) item.1).0 in
      let same : is.name ≡ at.0 = given.coherent.no_index_twice is.name at.0 is.there kept.0 (is.dir_is ∙ sym in_dir) is.index_is in
      let unchanged : is_unchanged news (make_key dir dir_index at.0.index, item.0) ≡ true = unchanged_is at.0.index item.0 is ∙ ap (has_unmarked two.names) same ∙ parts.1 in
      subst (Contains (unchanged_from olds news dir 0)) at.2
      (map_in index_of (filter (is_unchanged news) (indexes_between dir 0 last_index olds)) (make_key dir dir_index at.0.index, item.0)
      (filter_in (is_unchanged news) (indexes_between dir 0 last_index olds) (make_key dir dir_index at.0.index, item.0) item.1 unchanged))

  abbrev both : List FlatName
  both = one.names ++ two.names

  to_all : (name : FlatName) (index : ℕ) → Contains both name → name.dir ≡ dir → name.index ≡ index → Contains (all_indexes one two dir) index
  to_all name index c in_dir at =
      subst (Contains (all_indexes one two dir)) at
      (map_in (λ (n : FlatName). n.index) (filter (stands_in dir) both) name (filter_in (stands_in dir) both name c (eq-eqb name.dir dir in_dir)))

  all_to : (index : ℕ) → Contains (all_in olds news dir) index → Contains (all_indexes one two dir) index
  all_to index c =
      elim (Contains-append_cases (map index_of (indexes_between dir 0 last_index olds)) (map index_of (indexes_between dir 0 last_index news)) index
      (subst (λ (l : List ℕ). Contains l index) (map-append index_of (indexes_between dir 0 last_index olds) (indexes_between dir 0 last_index news)) c)) [
        | inl old ↦ let name = index_named table committed one given dir index old in to_all name.0 index (Contains-append_left one.names two.names name.0 name.1) name.2 name.3
        | inr new ↦ let name = index_named table current two now dir index new in to_all name.0 index (Contains-append_right one.names two.names name.0 name.1) name.2 name.3
      ]

  all_back : (index : ℕ) → Contains (all_indexes one two dir) index → Contains (all_in olds news dir) index
  all_back index c =
      let at = in_map (λ (n : FlatName). n.index) (filter (stands_in dir) both) index c in
      let kept = in_filter (stands_in dir) both at.0 at.1 in
      let in_dir = eqb-true at.0.dir dir kept.1 in
      subst (λ (l : List ℕ). Contains l index) (sym (map-append index_of (indexes_between dir 0 last_index olds) (indexes_between dir 0 last_index news)))
      (elim (Contains-append_cases one.names two.names at.0 kept.0) [
        | inl old ↦
            Contains-append_left (map index_of (indexes_between dir 0 last_index olds)) (map index_of (indexes_between dir 0 last_index news)) index
            (subst (Contains (map index_of (indexes_between dir 0 last_index olds))) at.2 (named_index table committed one given dir at.0 old in_dir))
        | inr new ↦
            Contains-append_right (map index_of (indexes_between dir 0 last_index olds)) (map index_of (indexes_between dir 0 last_index news)) index
            (subst (Contains (map index_of (indexes_between dir 0 last_index news))) at.2 (named_index table current two now dir at.0 new in_dir))
      ])

-- ---- the intervals

filter_by : {X : Type 0} (p q : X → Bool) (xs : List X) → ((x : X) → p x ≡ q x) → filter p xs ≡ filter q xs
filter_by p q [] same = refl
filter_by {X} p q (x ∷ xs) same = ap (λ (b : Bool). cond b (x ∷ filter p xs) (filter p xs)) (same x) ∙ ap (λ (l : List X). cond (q x) (x ∷ l) l) (filter_by p q xs same)

same_any : {X : Type 0} (p : X → Bool) (xs ys : List X) → ((x : X) → Contains xs x → Contains ys x) → ((x : X) → Contains ys x → Contains xs x) → list_any p xs ≡ list_any p ys
same_any p xs ys there back =
    same_truth (list_any p xs) (list_any p ys) (λ e. let at = any_gives p xs e in any_from p ys at.0 (there at.0 at.1) at.2) (λ e. let at = any_gives p ys e in any_from p xs at.0 (back at.0 at.1) at.2)

same_gaps : (without without' others others' : List ℕ) (high : ℕ) → ((n : ℕ) → Contains without n → Contains without' n) → ((n : ℕ) → Contains without' n → Contains without n) → ((n : ℕ) → Contains others n → Contains others' n)
    → ((n : ℕ) → Contains others' n → Contains others n) → gaps_with without others high ≡ gaps_with without' others' high
same_gaps without without' others others' high a b c d =
    ap (λ (l : List ℕ). filter (is_met others) (gaps 0 l high)) same
    ∙ filter_by (is_met others) (is_met others') (gaps 0 (number_set without') high) (λ gap. same_any (λ number. nat_le gap.0 number && nat_lt number gap.1) others others' c d)
  where
    same : number_set without ≡ number_set without'
    same =
        same_number_set (number_set without) (number_set without') (is_set_number_set without) (is_set_number_set without')
        (λ n e. number_set_has without' n (a n (number_set_gives without n e))) (λ n e. number_set_has without n (b n (number_set_gives without' n e)))

pub trees_say_ranges : TreesSayRanges
trees_say_ranges table committed current one two dir given now =
    ap (map (range_in dir))
    (same_gaps (unchanged_from (tree_items table committed) (tree_items table current) dir 0) (unchanged_indexes one two dir) (all_in (tree_items table committed) (tree_items table current) dir) (all_indexes one two dir) (2 ^ 64)
    (unchanged_to table committed current one two dir given now) (unchanged_back table committed current one two dir given now) (all_to table committed current one two dir given now) (all_back table committed current one two dir given now))
