-- Entries of a directory among the items: one at an index, one of a name in an item, and the lengths of their names.
use Rattle.std.proofs.Common.{◌≡◌, ◌<◌, ◌⊎◌, ◌+◌, ℕ, Bool, true, false, cond, List, [], ◌∷◌, length, filter, map, flat_map, fold, sum_by, Contains, Some, slice_get, refl, sym, ap, subst, ◌∙◌, arith, inl, inr}
use Rattle.std.proofs.lemmas.Bool.{and_parts, eqb-true, eq-eqb, cases_order}
use Rattle.std.proofs.lemmas.List.{length-map}
use Rattle.std.proofs.lemmas.List.Sorted.{sum_by-IsPermutation}
use Rattle.blk_base.specs.declared.key.Key.{Key}
use Rattle.blk_base.specs.Keys.{KeyBelow, dir_index}
use Rattle.blk_base.specs.Leaf.{Item}
use Rattle.blk_base.specs.Entries.{EntryValue, IsEntries, entries_of}
use Rattle.blk_base.specs.ItemFaults.{IsSpelled, IsEntriesKind}
use Rattle.item_laws.specs.Directories.{entries_to}
use Rattle.flat_model.specs.Names.{FlatName, is_name_set, stands_in, entries_of as names_in_dir}
use Rattle.volume_image.specs.Subvolume.{make_key}
use Rattle.volume_image.specs.Tree.{ItemsRise}
use Rattle.volume_image.proofs.Lists.{in_nothing}
use Rattle.volume_image.proofs.Reaches.{head_in, tail_in}
use Rattle.volume_image.proofs.Members.{in_filter, filter_in, in_map, map_in}
use Rattle.image_faults.specs.Said.{PlacedEntry, read_list, is_item_of, entries_in, entries_at}
use Rattle.image_faults.specs.Faulty.{StandOnce}
use Rattle.image_faults.specs.Lists.{in_flat_map, permuted, once_map, once_filter, once_names, once_short, once_append, one_member, get_at}
use Rattle.image_faults.proofs.Rising.{key_once, head_below, rise_tail, not_below_itself}
use Rattle.image_faults.proofs.Readings.{entry_from}

-- each item is spelled by the grammar of its type
abbrev pub AreSpelled : List Item → Type 0
AreSpelled items = (key : Key) (bytes : List ℕ) → Contains items (key, bytes) → IsSpelled key bytes

-- two entries of one item with one name are the same
pub entry_of_name : (kind : ℕ) (bytes : List ℕ) (es : List EntryValue) (a b : EntryValue) → IsEntries kind bytes es → Contains es a → Contains es b → a.name ≡ b.name → a ≡ b
entry_of_name kind bytes es a b is ca cb same = go (cases_order ca.0 cb.0)
  where
    some_same : (x y : EntryValue) → Some x ≡ Some y → x ≡ y
    some_same x y e = cc

    go : (ca.0 ≡ cb.0) ⊎ ((ca.0 < cb.0) ⊎ (cb.0 < ca.0)) → a ≡ b
    go (inl place) = some_same a b (sym (get_at es a ca) ∙ ap (slice_get es) place ∙ get_at es b cb)
    go (inr (inl below)) = absurd (is.once ca.0 cb.0 a b below (get_at es a ca) (get_at es b cb) same)
    go (inr (inr above)) = absurd (is.once cb.0 ca.0 b a above (get_at es b cb) (get_at es a ca) (sym same))

sum_from : {X Y : Type 0} (f : Y → ℕ) (g : X → Y) (start : ℕ) (xs : List X) → fold (λ (a : ℕ) (y : Y). a + f y) start (map g xs) ≡ fold (λ (a : ℕ) (x : X). a + f (g x)) start xs
sum_from f g start [] = refl
sum_from f g start (x ∷ xs) = sum_from f g (start + f (g x)) xs

sum_of_map : {X Y : Type 0} (f : Y → ℕ) (g : X → Y) (xs : List X) → sum_by f (map g xs) ≡ sum_by (λ x. f (g x)) xs
sum_of_map f g xs = sum_from f g 0 xs

once_rising : {Y : Type 0} (f : Item → List Y) (items : List Item) → ItemsRise items → ((item : Item) → Contains items item → StandOnce (f item))
    → ((one two : Item) (y : Y) → KeyBelow one.0 two.0 → Contains (f one) y → Contains (f two) y → ⊥) → StandOnce (flat_map f items)
once_rising f [] rise each apart = tt
once_rising f (item ∷ items) rise each apart =
    once_append (f item) (flat_map f items) (each item (head_in item items)) (once_rising f items (rise_tail item items rise) (λ other c. each other (tail_in item other items c)) apart)
    (λ y c d. let found = in_flat_map f items y d in apart item found.0 y (head_below item items rise found.0 found.1) c found.2)

-- the names of a directory, by their refs, and its entries by index go together
pub record GoTogether (items : List Item) (names : List FlatName) (dir : ℕ) : Type 0 where
  pub there : (p : PlacedEntry) → Contains (entries_at items dir_index dir) p → (name : FlatName) × Contains names name × (name.dir ≡ dir) × (name.index ≡ p.0) × (p.1.name ≡ name.bytes)
  pub back : (name : FlatName) → Contains names name → name.dir ≡ dir → (entry : EntryValue) × Contains (entries_at items dir_index dir) (name.index, entry) × (entry.name ≡ name.bytes)
  pub once : (one two : FlatName) → Contains names one → Contains names two → one.dir ≡ dir → two.dir ≡ dir → one.bytes ≡ two.bytes → one ≡ two

module _ (items : List Item) (rise : ItemsRise items) (spelled : AreSpelled items) where
  -- what was read of an item of entries
  pub entries_read : (kind ino offset : ℕ) (bytes : List ℕ) → IsEntriesKind kind → Contains items (make_key ino kind offset, bytes) → (found : List EntryValue) × IsEntries kind bytes found × (read_list (entries_of kind bytes) ≡ found)
  entries_read kind ino offset bytes is there =
      let found = (spelled (make_key ino kind offset) bytes there).entries is in
      (found.0, found.1, ap read_list (entries_to kind bytes found.0 found.1))

  -- one index has one entry
  pub index_one : (dir index : ℕ) (a b : EntryValue) → Contains (entries_at items dir_index dir) (index, a) → Contains (entries_at items dir_index dir) (index, b) → a ≡ b
  index_one dir index a b ca cb =
      let one = entry_from items dir_index dir (index, a) ca in
      let two = entry_from items dir_index dir (index, b) cb in
      let same = key_once items (make_key dir dir_index index) two.bytes one.bytes rise two.there one.there in
      let found = entries_read dir_index dir index one.bytes (inr (inl refl)) one.there in
      one_member found.0 a b (found.1.single refl) (subst (λ (es : List EntryValue). Contains es a) found.2 one.entry)
      (subst (λ (es : List EntryValue). Contains es b) found.2 (subst (λ (bytes : List ℕ). Contains (read_list (entries_of dir_index bytes)) b) same two.entry))

  indexed_once : (dir : ℕ) → StandOnce (entries_at items dir_index dir)
  unfolding entries_at
  indexed_once dir = once_rising (entries_in dir_index dir) items rise each apart
    where
      each : (item : Item) → Contains items item → StandOnce (entries_in dir_index dir item)
      each item c = go item.0.objectid item.0.kind item.0.offset item.1 c (is_item_of dir_index dir item.0) refl
        where
          go : (objectid kind offset : ℕ) (bytes : List ℕ) → Contains items (make_key objectid kind offset, bytes) → (b : Bool) → is_item_of dir_index dir (make_key objectid kind offset) ≡ b
              → StandOnce {X = PlacedEntry} (cond b (map (λ (entry : EntryValue). (offset, entry)) (read_list (entries_of dir_index bytes))) [])
          go objectid kind offset bytes there true e =
              let parts = and_parts _ _ e in
              let found = entries_read dir_index objectid offset bytes (inr (inl refl)) (subst (λ (k : ℕ). Contains items (make_key objectid k offset, bytes)) (eqb-true kind dir_index parts.0) there) in
              let single : length (read_list (entries_of dir_index bytes)) ≡ 1 = ap length found.2 ∙ found.1.single refl in
              let place : EntryValue → PlacedEntry = λ entry. (offset, entry) in
              let long = length-map (read_list (entries_of dir_index bytes)) place in
              once_short (map place (read_list (entries_of dir_index bytes))) (omega arith)
          go objectid kind offset bytes there false e = tt

      place : (item : Item) (p : PlacedEntry) → Contains (entries_in dir_index dir item) p → item.0 ≡ make_key dir dir_index p.0
      place item p c = go (is_item_of dir_index dir item.0) refl c
        where
          go : (b : Bool) → is_item_of dir_index dir item.0 ≡ b → Contains (cond b (map (λ (entry : EntryValue). (item.0.offset, entry)) (read_list (entries_of dir_index item.1))) []) p → item.0 ≡ make_key dir dir_index p.0
          go true e d =
              let parts = and_parts _ _ e in
              let found = in_map (λ (entry : EntryValue). (item.0.offset, entry)) (read_list (entries_of dir_index item.1)) p d in
              λ i. record { objectid = eqb-true item.0.objectid dir parts.1 i; kind = eqb-true item.0.kind dir_index parts.0 i; offset = ap (λ (q : PlacedEntry). q.0) found.2 i }
          go false e d = absurd (in_nothing p d)

      apart : (one two : Item) (p : PlacedEntry) → KeyBelow one.0 two.0 → Contains (entries_in dir_index dir one) p → Contains (entries_in dir_index dir two) p → ⊥
      apart one two p below c d = not_below_itself one.0 two.0 (place one p c ∙ sym (place two p d)) below

  -- the names in a directory are as long by its entries as by their refs
  pub same_lengths : (names : List FlatName) (dir : ℕ) → is_name_set names ≡ true → GoTogether items names dir
      → sum_by (λ (p : PlacedEntry). length p.1.name) (entries_at items dir_index dir) ≡ sum_by (λ (name : FlatName). length name.bytes) (names_in_dir names dir)
  same_lengths names dir set go =
      let es = entries_at items dir_index dir in
      let ns = filter (stands_in dir) names in
      let f : PlacedEntry → List ℕ = λ p. p.1.name in
      let g : FlatName → List ℕ = λ n. n.bytes in
      let same = permuted (map f es) (map g ns)
      (once_map f es (λ p q cp cq e.
      let n = go.there p cp in
      let m = go.there q cq in
      let one = go.once n.0 m.0 n.1 m.1 n.2 m.2 (sym n.4 ∙ e ∙ m.4) in
      let index : p.0 ≡ q.0 = sym n.3 ∙ ap (λ (x : FlatName). x.index) one ∙ m.3 in
      let entry = index_one dir q.0 p.1 q.1 (subst (λ (k : ℕ). Contains es (k, p.1)) index cp) cq in
      λ i. (index i, entry i)) (indexed_once dir))
      (once_map g ns (λ n m cn cm e.
      let kn = in_filter (stands_in dir) names n cn in
      let km = in_filter (stands_in dir) names m cm in
      go.once n m kn.0 km.0 (eqb-true n.dir dir kn.1) (eqb-true m.dir dir km.1) e) (once_filter (stands_in dir) names (once_names names set)))
      (λ bytes c.
      let p = in_map f es bytes c in
      let n = go.there p.0 p.1 in
      subst (λ (b : List ℕ). Contains (map g ns) b) (sym n.4 ∙ p.2) (map_in g ns n.0 (filter_in (stands_in dir) names n.0 n.1 (eq-eqb n.0.dir dir n.2))))
      (λ bytes c.
      let n = in_map g ns bytes c in
      let k = in_filter (stands_in dir) names n.0 n.1 in
      let e = go.back n.0 k.0 (eqb-true n.0.dir dir k.1) in
      subst (λ (b : List ℕ). Contains (map f es) b) (e.2 ∙ n.2) (map_in f es (n.0.index, e.0) e.1)) in
      sym (sum_of_map length f es) ∙ sym (sum_by-IsPermutation length (map f es) (map g ns) same) ∙ sum_of_map length g ns
