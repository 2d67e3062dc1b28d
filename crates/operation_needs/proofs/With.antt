-- Whether an attribute has its item alone.
use Rattle.std.proofs.Common.{◌≡◌, ◌≢◌, ℕ, Bool, true, false, cond, not, List, [], ◌∷◌, ◌||◌, Contains, Option, Some, None, map, nat_eq, refl, sym, ap, subst, ◌∙◌, inl, inr}
use Rattle.std.specs.FinMap.{empty, entries, get, get-empty, keys, remove}
use Rattle.std.specs.Cmp.Lexicographic.{nat_list_cmp_total, slice_cmp}
use Rattle.std.specs.List.{list_any}
use Rattle.std.specs.Ordering.{nat_cmp}
use Rattle.std.specs.Str.{bytes_eq}
use Rattle.std.proofs.lemmas.Bool.{cases_Bool, eq-eqb, eqb-true, true≢false}
use Rattle.blk_base.specs.declared.key.Key.{Key}
use Rattle.blk_base.specs.Crc.{name_hash_of}
use Rattle.blk_base.specs.Entries.{EntryValue}
use Rattle.blk_base.specs.Keys.{xattr_item}
use Rattle.block_table.specs.declared.tree.Tree.{Tree}
use Rattle.block_table.specs.Table.{Table}
use Rattle.tree_range.specs.Between.{data_under}
use Rattle.tree_range.specs.Shape.{tree_items}
use Rattle.tree_range.proofs.Found.{contains_under}
use Rattle.flat_model.specs.Needs.{attribute_hashes, items_with}
use Rattle.flat_model.specs.Operations.{attributes_there}
use Rattle.flat_model.specs.Records.{Attributes, InodeRecord}
use Rattle.flat_model.specs.Volume.{Subvolume}
use Rattle.flat_model.proofs.Maps.{some_none}
use Rattle.flat_model.proofs.Ways.{bytes_eq_same, same_bytes_eq}
use Rattle.volume_image.specs.Subvolume.{make_key}
use Rattle.volume_image.proofs.Asked.{asked_attributes}
use Rattle.volume_image.proofs.Lists.{in_nothing}
use Rattle.volume_image.proofs.Members.{get_in, in_get, in_map, map_in}
use Rattle.table_volume.specs.Gives.{data_in}
use Rattle.inode_removal.proofs.Counting.{passes}
use Rattle.inode_removal.proofs.OwnItems.{entries_some, has_hash}
use Rattle.attribute_items.specs.Found.{entries_there}
use Rattle.attribute_items.proofs.Hashed.{AreAttributes, bytes_one, gone_other, gone_same}
use Rattle.attribute_items.proofs.Items.{found_there}
use Rattle.name_walk.specs.Given.{GivesCoherent}
use Rattle.volume_image.proofs.Reaches.{head_in, tail_in}
use Rattle.volume_image.proofs.Lists.{in_cons}

-- ---- tests of a list

pub any_in : {X : Type 0} (p : X → Bool) (xs : List X) (x : X) → Contains xs x → p x ≡ true → list_any p xs ≡ true
any_in p [] x c is = absurd (in_nothing x c)
any_in p (y ∷ xs) x c is = elim (cases_Bool (p y)) [
  | inl here ↦ ap (λ (b : Bool). b || list_any p xs) here
  | inr out ↦ elim (in_cons y x xs c) [
    | inl same ↦ absurd (true≢false (sym is ∙ ap p (sym same) ∙ out))
    | inr later ↦ ap (λ (b : Bool). b || list_any p xs) out ∙ any_in p xs x later is
  ]
]

-- ---- another attribute of the hash

other_name : (one two : List ℕ) → not (bytes_eq one two) ≡ true → one ≢ two
other_name one two is same = true≢false (sym is ∙ ap not (bytes_eq_same one two same))

differs_from : (one two : List ℕ) → one ≢ two → not (bytes_eq one two) ≡ true
differs_from one two other = elim (cases_Bool (bytes_eq one two)) [
  | inl same ↦ absurd (other (same_bytes_eq one two same))
  | inr apart ↦ ap not apart
]

module _ (found : List EntryValue) (attributes : Attributes) (name : List ℕ) (are : AreAttributes found attributes (name_hash_of name)) where
  another : list_any (λ e. not (bytes_eq e.name name)) found ≡ true → list_any (nat_eq (name_hash_of name)) (attribute_hashes (remove attributes name)) ≡ true
  another is =
      let entry = passes (λ (e : EntryValue). not (bytes_eq e.name name)) found is in
      let has = are.only entry.0 entry.1 in
      let left = gone_other attributes name entry.0.name (other_name entry.0.name name entry.2) ∙ has.0 in
      let there = get_in nat_list_cmp_total bytes_one (remove attributes name) entry.0.name entry.0.value left in
      let key = map_in (λ (e : List ℕ × List ℕ). e.0) (entries (remove attributes name)) (entry.0.name, entry.0.value) there in
      let hash = map_in name_hash_of (keys (remove attributes name)) entry.0.name key in
      any_in (nat_eq (name_hash_of name)) (attribute_hashes (remove attributes name)) (name_hash_of entry.0.name) hash (eq-eqb (name_hash_of name) (name_hash_of entry.0.name) (sym has.1))

  also : list_any (nat_eq (name_hash_of name)) (attribute_hashes (remove attributes name)) ≡ true → list_any (λ e. not (bytes_eq e.name name)) found ≡ true
  also is =
      let hash = passes (nat_eq (name_hash_of name)) (attribute_hashes (remove attributes name)) is in
      let key = in_map name_hash_of (keys (remove attributes name)) hash.0 hash.1 in
      let entry = in_map (λ (e : List ℕ × List ℕ). e.0) (entries (remove attributes name)) key.0 key.1 in
      let left = in_get nat_list_cmp_total bytes_one (remove attributes name) entry.0.0 entry.0.1 entry.1 in
      let other : entry.0.0 ≢ name = λ same. let gone : None ≡ Some entry.0.1 = sym (gone_same attributes name) ∙ ap (get (remove attributes name)) (sym same) ∙ left in absurd cc in
      let same_hash : name_hash_of entry.0.0 ≡ name_hash_of name = ap name_hash_of entry.2 ∙ key.2 ∙ sym (eqb-true (name_hash_of name) hash.0 hash.2) in
      let there = are.all entry.0.0 entry.0.1 (sym (gone_other attributes name entry.0.0 other) ∙ left) same_hash in
      any_in (λ (e : EntryValue). not (bytes_eq e.name name)) found there.0 there.1 (differs_from there.0.name name (λ same. other (sym there.2 ∙ same)))

  pub both_are : items_with attributes name ≡ cond (list_any (λ e. not (bytes_eq e.name name)) found) 0 1
  both_are = elim (cases_Bool (list_any (λ e. not (bytes_eq e.name name)) found)) [
    | inl some ↦ rw (another some, some) refl
    | inr none ↦ elim (cases_Bool (list_any (nat_eq (name_hash_of name)) (attribute_hashes (remove attributes name)))) [
      | inl more ↦ absurd (true≢false (sym (also more) ∙ none))
      | inr alone ↦ rw (alone, none) refl
    ]
  ]

-- where there is no attribute there is no entry
none_there : (hash : ℕ) → AreAttributes [] empty hash
none_there hash = record {
  only = λ e c. absurd (in_nothing e c);
  all = λ name value h is. absurd (some_none value (sym h ∙ get-empty (slice_cmp nat_cmp) name));
  plain = λ e c. absurd (in_nothing e c);
  once = tt;
}

pub alone_there : (name : List ℕ) → 1 ≡ items_with empty name
alone_there name = sym (both_are [] empty name (none_there (name_hash_of name)))

-- what goes with an attribute, by the item under the key of its hash
pub with_item : (table : Table) (tree : Tree) (sub : Subvolume) (ino : ℕ) (name : List ℕ) → GivesCoherent table tree sub → (there : Option (List ℕ)) → data_under (make_key ino xattr_item (name_hash_of name)) (tree_items table tree) ≡ there
    → cond (list_any (λ e. not (bytes_eq e.name name)) (entries_there there)) 0 1 ≡ items_with (attributes_there (get sub.inodes ino)) name
with_item table tree sub ino name given there is = go (get sub.inodes ino) refl there is
  where
    go : (o : Option InodeRecord) → get sub.inodes ino ≡ o → (there : Option (List ℕ)) → data_under (make_key ino xattr_item (name_hash_of name)) (tree_items table tree) ≡ there
        → cond (list_any (λ e. not (bytes_eq e.name name)) (entries_there there)) 0 1 ≡ items_with (attributes_there o) name
    go (Some inode) here there is =
        let found = found_there (tree_items table tree) (data_in table) sub ino (name_hash_of name) inode given.gives.tree_in.order given.gives.items here there is in
        sym (both_are (entries_there there) (Rattle.flat_model.specs.Records.attributes_of inode) name found.are)
    go None absent None is = alone_there name
    go None absent (Some bytes) is =
        let key = make_key ino xattr_item (name_hash_of name) in
        let asked = asked_attributes sub (data_in table) key bytes refl (given.gives.items.only key bytes (contains_under (tree_items table tree) key bytes is)) in
        let found = has_hash sub ino (name_hash_of name) (entries_some asked.found _ asked.spelled.some asked.same) in
        absurd (some_none found.inode (sym found.there ∙ absent))
