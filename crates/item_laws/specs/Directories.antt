-- All entries of an item of a directory, or attributes: what the reader accepts is what the entries spell.
use Rattle.std.proofs.Common.{◌≡◌, ◌≢◌, ◌⊎◌, inl, inr, ⊎_elim, ℕ, suc, zero, ◌<◌, ◌^◌, Bool, true, false, ◌&&◌, ◌||◌, eqb, ltb, List, [], ◌∷◌, length, Some, Result, Ok, Err, refl, ap, sym, ◌∙◌, arith}
use Rattle.std.specs.Bool.{Decides}
use Rattle.std.specs.List.{list_all, list_any, slice_get}
use Rattle.std.specs.Str.{bytes_eq}
use Rattle.std.proofs.lemmas.Bool.{cases_Bool, cases_eq, false≢true, eqb-true, eqb-false, eq-eqb, ne_eqb, and_parts, and_left, and_right, and_cases, or_parts, le-ltb, ltb-false, false_from_ne_true}
use Rattle.std.proofs.lemmas.Bool.Decides.{nat_tests}
use Rattle.std.proofs.lemmas.List.{nil_from_length}
use Rattle.std.proofs.lemmas.Option.{none-some, same_Some}
use Rattle.std.proofs.lemmas.Slice.Eq.{bytes_eq-Decides}
use Rattle.blk_base.specs.declared.fault.ItemFault.{ItemFault}
use Rattle.blk_base.specs.declared.fault.ItemFault.TheVariants.{Kind, Twice}
use Rattle.blk_base.specs.Bytes.{IsBytes}
use Rattle.blk_base.specs.Keys.{dir_index, xattr_item}
use Rattle.blk_base.specs.Name.{IsName, is_name}
use Rattle.blk_base.proofs.NameLemmas.{is_name_decides}
use Rattle.blk_base.specs.Entries.{EntryFits, EntryValue, IsEntries, IsEntryKind, all_entries, attr_entry, dir_entry, entries_of, entry_bytes, entry_from, file_entry, has_twice, is_entry_kind, link_entry, with_kinds, with_names}
use Rattle.item_laws.specs.EntrySpelling.{HasSpelling, entry_spelling}
use Rattle.item_laws.specs.ExtRefs.{name_short}
use Rattle.item_laws.specs.Spelling.{SpellsNamed, named_takes, named_again, all_from_test, test_from_all, all_weaker, all_both}

-- ---- types

dir_kind_from : (kind : ℕ) → (eqb kind 1 || eqb kind 2 || eqb kind 7) ≡ true → (kind ≡ 1) ⊎ (kind ≡ 2) ⊎ (kind ≡ 7)
dir_kind_from kind h = grind (arith, nat_tests, h)

dir_kind_to : (kind : ℕ) → (kind ≡ 1) ⊎ (kind ≡ 2) ⊎ (kind ≡ 7) → (eqb kind 1 || eqb kind 2 || eqb kind 7) ≡ true
dir_kind_to kind h = grind (arith, nat_tests, h)

kind_from_test : (kind : ℕ) (e : EntryValue) → is_entry_kind kind e ≡ true → IsEntryKind kind e
kind_from_test kind e h = elim (cases_Bool (eqb kind xattr_item)) [
  | inl attr ↦ let t : eqb e.kind attr_entry ≡ true = rw attr at h in inl (eqb-true kind xattr_item attr, eqb-true e.kind attr_entry t)
  | inr other ↦
      let t : ((eqb e.kind file_entry || eqb e.kind dir_entry || eqb e.kind link_entry) && eqb (length e.value) 0) ≡ true = rw other at h in
      let parts = and_parts (eqb e.kind file_entry || eqb e.kind dir_entry || eqb e.kind link_entry) (eqb (length e.value) 0) t in
      let plain = nil_from_length e.value (eqb-true (length e.value) 0 parts.1) in
      let kinds : (e.kind ≡ file_entry) ⊎ (e.kind ≡ dir_entry) ⊎ (e.kind ≡ link_entry) = dir_kind_from e.kind parts.0 in
      inr (eqb-false kind xattr_item other, kinds, plain)
]

kind_to_test : (kind : ℕ) (e : EntryValue) → IsEntryKind kind e → is_entry_kind kind e ≡ true
kind_to_test kind e (inl h) = rw (eq-eqb kind xattr_item h.0) (eq-eqb e.kind attr_entry h.1)
kind_to_test kind e (inr h) = rw (ne_eqb kind xattr_item h.0, dir_kind_to e.kind h.1) (eq-eqb (length e.value) 0 (ap length h.2))

pub kind_decides : (kind : ℕ) (e : EntryValue) → Decides (is_entry_kind kind e) (IsEntryKind kind e)
kind_decides kind e = (kind_from_test kind e, kind_to_test kind e)

-- no type of an entry passes a byte
kind_fits : (kind : ℕ) (e : EntryValue) → IsEntryKind kind e → e.kind < 2 ^ 8
kind_fits kind e h = grind arith

-- ---- names that stand twice

abbrev AreApart : List EntryValue → Type 0
AreApart entries = (i j : ℕ) (a b : EntryValue) → i < j → slice_get entries i ≡ Some a → slice_get entries j ≡ Some b → a.name ≢ b.name

any_false_at : (test : EntryValue → Bool) (entries : List EntryValue) (j : ℕ) (b : EntryValue) → list_any test entries ≡ false → slice_get entries j ≡ Some b → test b ≡ false
any_false_at test [] j b h s = absurd (none-some b s)
any_false_at test (x ∷ entries) zero b h s = ap test (sym (same_Some x b s)) ∙ (or_parts (test x) (list_any test entries) h).0
any_false_at test (x ∷ entries) (suc j) b h s = any_false_at test entries j b (or_parts (test x) (list_any test entries) h).1 s

any_false_from : (test : EntryValue → Bool) (entries : List EntryValue) → ((j : ℕ) (b : EntryValue) → slice_get entries j ≡ Some b → test b ≡ false) → list_any test entries ≡ false
any_false_from test [] h = refl
any_false_from test (x ∷ entries) h = rw (h zero x refl) (any_false_from test entries (λ j b s. h (suc j) b s))

names_differ : (a b : List ℕ) → bytes_eq b a ≡ false → a ≢ b
names_differ a b h e = false≢true (sym h ∙ (bytes_eq-Decides b a).1 (sym e))

apart_from_test : (entries : List EntryValue) → has_twice entries ≡ false → AreApart entries
apart_from_test [] h i j a b l s t = absurd (none-some a s)
apart_from_test (e ∷ entries) h zero zero a b l s t = absurd (omega arith)
apart_from_test (e ∷ entries) h zero (suc j) a b l s t =
    let parts = or_parts (list_any (λ (other : EntryValue). bytes_eq other.name e.name) entries) (has_twice entries) h in
    let differ : bytes_eq b.name e.name ≡ false = any_false_at (λ (other : EntryValue). bytes_eq other.name e.name) entries j b parts.0 t in
    λ same. names_differ e.name b.name differ (ap (λ (x : EntryValue). x.name) (same_Some e a s) ∙ same)
apart_from_test (e ∷ entries) h (suc i) zero a b l s t = absurd (omega arith)
apart_from_test (e ∷ entries) h (suc i) (suc j) a b l s t =
    apart_from_test entries (or_parts (list_any (λ (other : EntryValue). bytes_eq other.name e.name) entries) (has_twice entries) h).1 i j a b (omega arith) s t

apart_to_test : (entries : List EntryValue) → AreApart entries → has_twice entries ≡ false
apart_to_test [] h = refl
apart_to_test (e ∷ entries) h =
    let here : list_any (λ (other : EntryValue). bytes_eq other.name e.name) entries ≡ false = any_false_from (λ (other : EntryValue). bytes_eq other.name e.name) entries
    (λ j b s. false_from_ne_true (bytes_eq b.name e.name) (λ t. h zero (suc j) e b (omega arith) refl s (sym ((bytes_eq-Decides b.name e.name).0 t)))) in
    rw here (apart_to_test entries (λ i j a b l s t. h (suc i) (suc j) a b (omega arith) s t))

-- ---- the two last checks

abbrev is_twice : ℕ → List EntryValue → Bool
is_twice kind entries = has_twice entries || (eqb kind dir_index && ltb 1 (length entries))

kinds_some : (kind : ℕ) (r : Result (List EntryValue) ItemFault) (entries : List EntryValue) → with_kinds kind r ≡ Ok entries
    → (r ≡ Ok entries) × (list_all (is_entry_kind kind) entries ≡ true) × (is_twice kind entries ≡ false)
kinds_some kind (Err fault) entries e = absurd (cc)
kinds_some kind (Ok found) entries e = elim (cases_Bool (list_all (is_entry_kind kind) found)) [
  | inl good ↦ elim (cases_Bool (is_twice kind found)) [
    | inl twice ↦ let bad : Err Twice ≡ Ok entries = rw (good, twice) at e in absurd (cc)
    | inr once ↦ let same : Ok found ≡ Ok entries = rw (good, once) at e in
        let is : found ≡ entries = cc in
        (same, ap (list_all (is_entry_kind kind)) (sym is) ∙ good, ap (is_twice kind) (sym is) ∙ once)
  ]
  | inr bad ↦ let fault : Err Kind ≡ Ok entries = rw bad at e in absurd (cc)
]

kinds_ok : (kind : ℕ) (entries : List EntryValue) → list_all (is_entry_kind kind) entries ≡ true → is_twice kind entries ≡ false → with_kinds kind (Ok entries) ≡ Ok entries
kinds_ok kind entries good once = rw (good, once) refl

single_from_test : (kind : ℕ) (entries : List EntryValue) → entries ≢ [] → (eqb kind dir_index && ltb 1 (length entries)) ≡ false → kind ≡ dir_index → length entries ≡ 1
single_from_test kind [] some h k = absurd (some refl)
single_from_test kind (e ∷ entries) some h k =
    ⊎_elim (λ t. absurd (eqb-false kind dir_index t k)) (λ t. let few = ltb-false 1 (suc (length entries)) t in omega (arith, few)) (and_cases (eqb kind dir_index) (ltb 1 (suc (length entries))) h)

single_to_test : (kind : ℕ) (entries : List EntryValue) → (kind ≡ dir_index → length entries ≡ 1) → (eqb kind dir_index && ltb 1 (length entries)) ≡ false
single_to_test kind entries h = elim (cases_eq kind dir_index) [
  | inl same ↦ let one = h same in and_right (eqb kind dir_index) (ltb 1 (length entries)) (le-ltb 1 (length entries) (omega (arith, one)))
  | inr other ↦ and_left (eqb kind dir_index) (ltb 1 (length entries)) (ne_eqb kind dir_index other)
]

-- ---- all entries of an item

abbrev entries_named : List ℕ → List EntryValue → Type 0
entries_named bytes entries = SpellsNamed entry_bytes HasSpelling (λ (e : EntryValue). is_name e.name) bytes entries

pub entries_from : (kind : ℕ) (bytes : List ℕ) (entries : List EntryValue) → IsBytes bytes → entries_of kind bytes ≡ Ok entries → IsEntries kind bytes entries
unfolding entries_of
entries_from kind bytes entries b e =
    let parts = kinds_some kind (with_names is_name (λ (x : EntryValue). x.name) bytes (all_entries entry_from bytes)) entries e in
    let n : entries_named bytes entries = named_takes entry_from entry_bytes HasSpelling entry_spelling is_name (λ (x : EntryValue). x.name) bytes entries b parts.0 in
    let once = or_parts (has_twice entries) (eqb kind dir_index && ltb 1 (length entries)) parts.2 in
    record {
      some = n.some;
      spelled = n.spells.spelled;
      fields = all_weaker HasSpelling EntryFits (λ x f. f.fields) entries n.spells.fit;
      names = all_from_test (λ (x : EntryValue). is_name x.name) (λ (x : EntryValue). IsName x.name) (λ x. is_name_decides x.name) entries n.all;
      kinds = all_from_test (is_entry_kind kind) (IsEntryKind kind) (kind_decides kind) entries parts.1;
      once = apart_from_test entries once.0;
      single = single_from_test kind entries n.some once.1;
    }

pub entries_to : (kind : ℕ) (bytes : List ℕ) (entries : List EntryValue) → IsEntries kind bytes entries → entries_of kind bytes ≡ Ok entries
unfolding entries_of
entries_to kind bytes entries h =
    let kinds = all_both (IsEntryKind kind) (λ (x : EntryValue). IsName x.name) (λ (x : EntryValue). (x.kind < 2 ^ 8) × (length x.name < 2 ^ 16)) (λ x k n. (kind_fits kind x k, name_short x.name n)) entries h.kinds h.names in
    let fit = all_both EntryFits (λ (x : EntryValue). (x.kind < 2 ^ 8) × (length x.name < 2 ^ 16)) HasSpelling (λ x f k. record { fields = f; kind = k.0; name = k.1 }) entries h.fields kinds in
    let n : entries_named bytes entries = record {
      some = h.some;
      spells = record { spelled = h.spelled; fit = fit };
      all = test_from_all (λ (x : EntryValue). is_name x.name) (λ (x : EntryValue). IsName x.name) (λ x. is_name_decides x.name) entries h.names;
    } in
    let names : with_names is_name (λ (x : EntryValue). x.name) bytes (all_entries entry_from bytes) ≡ Ok entries = named_again entry_from entry_bytes HasSpelling entry_spelling is_name (λ (x : EntryValue). x.name) bytes entries n in
    let good = test_from_all (is_entry_kind kind) (IsEntryKind kind) (kind_decides kind) entries h.kinds in
    let once : is_twice kind entries ≡ false = rw (apart_to_test entries h.once) (single_to_test kind entries h.single) in
    ap (with_kinds kind) names ∙ kinds_ok kind entries good once
