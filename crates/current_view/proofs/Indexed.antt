-- The names in a directory are those that its indexes tell.
use Rattle.std.proofs.Common.{◌≡◌, ◌-◌, ◌^◌, ℕ, List, map, flat_map, Contains, IsPermutation, length, refl, sym, ap, subst, ◌∙◌, arith}
use Rattle.std.proofs.lemmas.Bool.{eqb-true, eq-eqb}
use Rattle.block_table.specs.declared.tree.Tree.{Tree}
use Rattle.block_table.specs.Table.{Table}
use Rattle.blk_base.specs.declared.key.Key.{Key}
use Rattle.blk_base.specs.Entries.{EntryValue, entries_of as entries_read}
use Rattle.blk_base.specs.Keys.{KeyBelow, dir_index}
use Rattle.blk_base.specs.Leaf.{Item}
use Rattle.tree_range.specs.Shape.{tree_items}
use Rattle.flat_model.specs.declared.view.NameAt.{NameAt}
use Rattle.flat_model.specs.Names.{FlatName, entries_of, stands_in}
use Rattle.flat_model.specs.Unmarked.{unmarked}
use Rattle.flat_model.specs.Volume.{Subvolume}
use Rattle.volume_image.specs.Subvolume.{make_key}
use Rattle.volume_image.proofs.Members.{filter_in, flat_map_in, in_filter, in_map, map_in}
use Rattle.image_faults.specs.Faulty.{StandOnce}
use Rattle.image_faults.specs.Lists.{in_flat_map, once_short, permuted}
use Rattle.image_faults.specs.Said.{read_list}
use Rattle.image_faults.proofs.Readings.{entry_from, entry_in}
use Rattle.image_faults.proofs.ExtentSums.{once_rising_in}
use Rattle.image_faults.proofs.Rising.{not_below_itself}
use Rattle.item_laws.specs.Directories.{entries_to}
use Rattle.std.proofs.lemmas.List.{length-map}
use Rattle.table_volume.specs.Gives.{data_in}
use Rattle.volume_image.proofs.Asked.{asked_indexed}
use Rattle.name_walk.specs.Given.{GivesCoherent}
use Rattle.current_view.specs.Told.{entry_told, indexed_told, indexes_of, name_told}
use Rattle.current_view.specs.View.{seen}
use Rattle.current_view.proofs.Between.{between_gives, between_has, between_rises}
use Rattle.current_view.proofs.Once.{no_fault, once_unmarked}

-- a name without its mark by its parts
pub told_is : (name : FlatName) (dir index ino : ℕ) (bytes : List ℕ) → name.dir ≡ dir → name.index ≡ index → bytes ≡ name.bytes → ino ≡ name.ino → unmarked name ≡ name_told dir index bytes ino
told_is name dir index ino bytes d i b o = λ k. record { dir = record { 0 = d k }; index = i k; name = sym b k; ino = record { 0 = sym o k } }

module _ (table : Table) (tree : Tree) (given : GivesCoherent table tree (seen table tree)) (dir : ℕ) where
  abbrev items : List Item
  items = tree_items table tree

  abbrev sub : Subvolume
  sub = seen table tree

  has : (x : NameAt) → Contains (map unmarked (entries_of sub.names dir)) x → Contains (flat_map indexed_told (indexes_of items dir)) x
  has x c =
      let from = in_map unmarked (entries_of sub.names dir) x c in
      let name = from.0 in
      let kept = in_filter (stands_in dir) sub.names name from.1 in
      let in_dir = eqb-true name.dir dir kept.1 in
      let right = (no_fault table tree given name.ino).refs name kept.0 refl in
      let entry = right.indexed.0 in
      let is = right.indexed.2 in
      let item = entry_from items dir_index name.dir (name.index, entry) right.indexed.1 in
      let there : Contains items (make_key dir dir_index name.index, item.bytes) = subst (λ (d : ℕ). Contains items (make_key d dir_index name.index, item.bytes)) in_dir item.there in
      let numbers = given.coherent.index_numbers name kept.0 in
      let between = between_has items dir dir_index dir_index (2 ^ 64 - 1) dir_index name.index item.bytes there (omega arith) (omega arith) (λ e. omega (arith, numbers.1)) in
      let told : x ≡ entry_told (make_key dir dir_index name.index) entry = sym from.2 ∙ told_is name dir name.index entry.target.objectid entry.name in_dir refl is.bytes is.ino in
      subst (Contains (flat_map indexed_told (indexes_of items dir))) (sym told)
      (flat_map_in indexed_told (indexes_of items dir) (make_key dir dir_index name.index, item.bytes) (entry_told (make_key dir dir_index name.index) entry) between
      (map_in (entry_told (make_key dir dir_index name.index)) (read_list (entries_read dir_index item.bytes)) entry item.entry))

  -- an item of the directory's indexes has the key of its index
  keyed : (item : Item) → Contains (indexes_of items dir) item → Contains items (make_key dir dir_index item.0.offset, item.1) × (item.0 ≡ make_key dir dir_index item.0.offset)
  keyed item c =
      let parts = between_gives items dir dir_index dir_index (2 ^ 64 - 1) item c in
      let lies = parts.1 in
      let kind : item.0.kind ≡ dir_index = omega (arith, lies.low, lies.high) in
      let key : item.0 ≡ make_key dir dir_index item.0.offset = λ k. record { objectid = lies.objectid k; kind = kind k; offset = item.0.offset } in
      (subst (λ (key : Key). Contains items (key, item.1)) key parts.0, key)

  name_of : (item : Item) (entry : EntryValue) → Contains (indexes_of items dir) item → Contains (read_list (entries_read dir_index item.1)) entry
      → (name : FlatName) × Contains sub.names name × (name.dir ≡ dir) × (unmarked name ≡ entry_told item.0 entry)
  name_of item entry c e =
      let at = keyed item c in
      let right = (no_fault table tree given dir).indexed item.0.offset entry (entry_in items dir_index dir item.0.offset item.1 entry at.0 e) in
      let name = right.ref.0 in
      let is = right.ref.4 in
      let told : unmarked name ≡ entry_told (make_key dir dir_index item.0.offset) entry = told_is name dir item.0.offset entry.target.objectid entry.name right.ref.2 right.ref.3 is.bytes is.ino in
      (name, right.ref.1, right.ref.2, told ∙ ap (λ (key : Key). entry_told key entry) (sym at.1))

  gives : (x : NameAt) → Contains (flat_map indexed_told (indexes_of items dir)) x → Contains (map unmarked (entries_of sub.names dir)) x
  gives x c =
      let item = in_flat_map indexed_told (indexes_of items dir) x c in
      let entry = in_map (entry_told item.0.0) (read_list (entries_read dir_index item.0.1)) x item.2 in
      let name = name_of item.0 entry.0 item.1 entry.1 in
      subst (Contains (map unmarked (entries_of sub.names dir))) (name.3 ∙ entry.2)
      (map_in unmarked (entries_of sub.names dir) name.0 (filter_in (stands_in dir) sub.names name.0 name.1 (eq-eqb name.0.dir dir name.2)))

  pub indexed_are : IsPermutation (map unmarked (entries_of sub.names dir)) (flat_map indexed_told (indexes_of items dir))
  indexed_are =
      permuted (map unmarked (entries_of sub.names dir)) (flat_map indexed_told (indexes_of items dir)) (once_unmarked sub given.coherent (stands_in dir))
      (once_rising_in indexed_told (indexes_of items dir) (between_rises items (make_key dir dir_index 0) (make_key dir dir_index (2 ^ 64 - 1)) given.gives.tree_in.order) each apart) has gives
    where
      each : (item : Item) → Contains (indexes_of items dir) item → StandOnce (indexed_told item)
      each item c =
          let at = keyed item c in
          let asked = asked_indexed sub (data_in table) (make_key dir dir_index item.0.offset) item.1 refl (given.gives.items.only (make_key dir dir_index item.0.offset) item.1 at.0) in
          let read : read_list (entries_read dir_index item.1) ≡ asked.found = ap read_list (entries_to dir_index item.1 asked.found asked.spelled) in
          let long : length (read_list (entries_read dir_index item.1)) ≡ 1 = ap length read ∙ asked.spelled.single refl in
          let same = length-map (read_list (entries_read dir_index item.1)) (entry_told item.0) in
          once_short (indexed_told item) (omega arith)

      apart : (one two : Item) (x : NameAt) → Contains (indexes_of items dir) one → Contains (indexes_of items dir) two → KeyBelow one.0 two.0 → Contains (indexed_told one) x → Contains (indexed_told two) x → ⊥
      apart one two x c d below a b =
          let first = keyed one c in
          let second = keyed two d in
          let here = in_map (entry_told one.0) (read_list (entries_read dir_index one.1)) x a in
          let there = in_map (entry_told two.0) (read_list (entries_read dir_index two.1)) x b in
          let same : one.0.offset ≡ two.0.offset = ap (λ (n : NameAt). n.index) (here.2 ∙ sym there.2) in
          not_below_itself one.0 two.0 (first.1 ∙ ap (make_key dir dir_index) same ∙ sym second.1) below
