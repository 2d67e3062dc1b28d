-- What a reader of entries accepts is what they spell, one behind the other.
use Rattle.std.proofs.Common.{◌≡◌, ◌≢◌, ◌⊎◌, inl, inr, ℕ, suc, zero, ◌<◌, ◌≤◌, Bool, true, false, cond, List, [], ◌∷◌, ◌++◌, length, drop, Option, Some, None, Ok, Err, refl, ap, sym, subst, ◌∙◌, arith}
use Rattle.std.specs.Bool.{Decides}
use Rattle.std.specs.List.{flat_map, list_all, AllByRecursion}
use Rattle.std.proofs.lemmas.Bool.{and_parts, and_from}
use Rattle.std.proofs.lemmas.List.{drop_at}
use Rattle.std.proofs.lemmas.Option.{none-some, same_Some}
use Rattle.blk_base.specs.declared.fault.ItemFault.{ItemFault}
use Rattle.blk_base.specs.declared.fault.ItemFault.TheVariants.{NameLen}
use Rattle.blk_base.specs.Bytes.{IsBytes}
use Rattle.blk_base.specs.Entries.{all_entries, with_names}
use Rattle.item_laws.specs.Fields.{IsBytes-drop}
use Rattle.item_laws.specs.Walk.{IsShortening, with_first, all_entries-none, all_entries-some, all_entries-cut}

-- a reader of one entry gives what the entry spells, and reads each spelling
pub record IsSpelling {E : Type 0} (read : List ℕ → Option (E × List ℕ)) (spell : E → List ℕ) (Fits : E → Type 0) : Type 0 where
  pub short : IsShortening read
  pub takes : (bytes : List ℕ) (entry : E) (rest : List ℕ) → IsBytes bytes → read bytes ≡ Some (entry, rest) → (bytes ≡ spell entry ++ rest) × Fits entry
  pub again : (entry : E) (rest : List ℕ) → Fits entry → read (spell entry ++ rest) ≡ Some (entry, rest)

-- the bytes spell these entries, each of which fits
pub record Spells {E : Type 0} (spell : E → List ℕ) (Fits : E → Type 0) (bytes : List ℕ) (entries : List E) : Type 0 where
  pub spelled : bytes ≡ flat_map spell entries
  pub fit : AllByRecursion Fits entries

option_cases : {X : Type 0} (o : Option X) → (o ≡ None) ⊎ ((x : X) × (o ≡ Some x))
option_cases None = inl refl
option_cases (Some x) = inr (x, refl)

first_parts : {E : Type 0} (entry : E) (o : Option (List E)) (entries : List E) → with_first entry o ≡ Some entries → (others : List E) × (o ≡ Some others) × (entries ≡ entry ∷ others)
first_parts entry None entries e = absurd (none-some entries e)
first_parts entry (Some others) entries e = (others, refl, sym (same_Some (entry ∷ others) entries e))

module _ {E : Type 0} (read : List ℕ → Option (E × List ℕ)) (spell : E → List ℕ) (Fits : E → Type 0) (s : IsSpelling read spell Fits) where
  bytes_behind : (bytes front rest : List ℕ) → IsBytes bytes → bytes ≡ front ++ rest → IsBytes rest
  bytes_behind bytes front rest b e =
      subst (λ (r : List ℕ). IsBytes r) (ap (drop (length front)) e ∙ drop_at front rest (length front) refl) (IsBytes-drop (length front) bytes b)

  -- n bounds the number of bytes
  all_takes_within : (n : ℕ) (bytes : List ℕ) (entries : List E) → length bytes ≤ n → IsBytes bytes → all_entries read bytes ≡ Some entries → Spells spell Fits bytes entries
  all_takes_within n [] entries h b e =
      let none : [] ≡ entries = same_Some [] entries (sym (all_entries-none read s.short) ∙ e) in
      subst (λ (es : List E). Spells spell Fits [] es) none (record { spelled = refl; fit = tt })
  all_takes_within zero (x ∷ bytes) entries h b e = absurd (omega arith)
  all_takes_within (suc n) (x ∷ bytes) entries h b e = elim (option_cases (read (x ∷ bytes))) [
    | inl none ↦ absurd (none-some entries (sym (all_entries-cut read s.short (x ∷ bytes) (omega arith) none) ∙ e))
    | inr found ↦
        let entry = found.0.0 in
        let rest = found.0.1 in
        let fewer : length rest < suc (length bytes) = s.short.fewer (x ∷ bytes) entry rest found.1 in
        let parts = first_parts entry (all_entries read rest) entries (sym (all_entries-some read s.short (x ∷ bytes) entry rest found.1) ∙ e) in
        let here = s.takes (x ∷ bytes) entry rest b found.1 in
        let behind = all_takes_within n rest parts.0 (omega arith) (bytes_behind (x ∷ bytes) (spell entry) rest b here.0) parts.1 in
        subst (λ (es : List E). Spells spell Fits (x ∷ bytes) es) (sym parts.2)
        (record { spelled = here.0 ∙ ap (λ (r : List ℕ). spell entry ++ r) behind.spelled; fit = (here.1, behind.fit) })
  ]

  -- entries that were read are those that the bytes spell
  pub all_takes : (bytes : List ℕ) (entries : List E) → IsBytes bytes → all_entries read bytes ≡ Some entries → Spells spell Fits bytes entries
  all_takes bytes entries b e = all_takes_within (length bytes) bytes entries (omega arith) b e

  -- the spelling of entries is read as they
  pub all_again : (entries : List E) → AllByRecursion Fits entries → all_entries read (flat_map spell entries) ≡ Some entries
  all_again [] f = all_entries-none read s.short
  all_again (entry ∷ entries) f =
      all_entries-some read s.short (spell entry ++ flat_map spell entries) entry (flat_map spell entries) (s.again entry (flat_map spell entries) f.0)
      ∙ ap (with_first entry) (all_again entries f.1)

  -- an entry has a byte
  spelled_some : (entry : E) (rest : List ℕ) → Fits entry → 0 < length (spell entry ++ rest)
  spelled_some entry rest f = let fewer = s.short.fewer (spell entry ++ rest) entry rest (s.again entry rest f) in omega (arith, fewer)

-- entries of an item, each with a good name
pub record SpellsNamed {E : Type 0} (spell : E → List ℕ) (Fits : E → Type 0) (good : E → Bool) (bytes : List ℕ) (entries : List E) : Type 0 where
  pub some : entries ≢ []
  pub spells : Spells spell Fits bytes entries
  pub all : list_all good entries ≡ true

guard_ok : {X : Type 0} (b : Bool) (x y : X) (fault : ItemFault) → cond b (Ok x) (Err fault) ≡ Ok y → (b ≡ true) × (x ≡ y)
guard_ok true x y fault e = (refl, cc)
guard_ok false x y fault e = absurd (cc)

module _ {E : Type 0} (good : List ℕ → Bool) (name : E → List ℕ) where
  with_names-some : (bytes : List ℕ) (o : Option (List E)) (entries : List E) → with_names good name bytes o ≡ Ok entries
      → (0 < length bytes) × (o ≡ Some entries) × (list_all (λ (e : E). good (name e)) entries ≡ true)
  with_names-some [] o entries e = absurd (cc)
  with_names-some (b ∷ bytes) None entries e = absurd (cc)
  with_names-some (b ∷ bytes) (Some found) entries e =
      let parts = guard_ok (list_all (λ (x : E). good (name x)) found) found entries NameLen e in
      (omega arith, ap (λ (es : List E). Some es) parts.1, ap (λ (es : List E). list_all (λ (x : E). good (name x)) es) (sym parts.1) ∙ parts.0)

  with_names-ok : (bytes : List ℕ) (entries : List E) → 0 < length bytes → list_all (λ (e : E). good (name e)) entries ≡ true → with_names good name bytes (Some entries) ≡ Ok entries
  with_names-ok [] entries h a = absurd (omega arith)
  with_names-ok (b ∷ bytes) entries h a = rw a refl

module _ {E : Type 0} (read : List ℕ → Option (E × List ℕ)) (spell : E → List ℕ) (Fits : E → Type 0) (s : IsSpelling read spell Fits) (good : List ℕ → Bool) (name : E → List ℕ) where
  pub named_takes : (bytes : List ℕ) (entries : List E) → IsBytes bytes → with_names good name bytes (all_entries read bytes) ≡ Ok entries
      → SpellsNamed spell Fits (λ (e : E). good (name e)) bytes entries
  named_takes bytes entries b e =
      let parts = with_names-some good name bytes (all_entries read bytes) entries e in
      let spells = all_takes read spell Fits s bytes entries b parts.1 in
      record {
        some = λ none. let size : length bytes ≡ 0 = ap length (spells.spelled ∙ ap (flat_map spell) none) in
            let has : 0 < length bytes = parts.0 in omega arith;
        spells = spells;
        all = parts.2;
      }

  pub named_again : (bytes : List ℕ) (entries : List E) → SpellsNamed spell Fits (λ (e : E). good (name e)) bytes entries → with_names good name bytes (all_entries read bytes) ≡ Ok entries
  named_again bytes [] n = absurd (n.some refl)
  named_again bytes (entry ∷ entries) n =
      let has : 0 < length bytes = rw n.spells.spelled (spelled_some read spell Fits s entry (flat_map spell entries) n.spells.fit.0) in
      let read_again : all_entries read bytes ≡ Some (entry ∷ entries) = ap (all_entries read) n.spells.spelled ∙ all_again read spell Fits s (entry ∷ entries) n.spells.fit in
      ap (with_names good name bytes) read_again ∙ with_names-ok good name bytes (entry ∷ entries) has n.all

-- ---- a test of each and a fact of each

pub all_from_test : {E : Type 0} (test : E → Bool) (P : E → Type 0) → ((x : E) → Decides (test x) (P x)) → (xs : List E) → list_all test xs ≡ true → AllByRecursion P xs
all_from_test test P d [] h = tt
all_from_test test P d (x ∷ xs) h = let parts = and_parts (test x) (list_all test xs) h in ((d x).0 parts.0, all_from_test test P d xs parts.1)

pub test_from_all : {E : Type 0} (test : E → Bool) (P : E → Type 0) → ((x : E) → Decides (test x) (P x)) → (xs : List E) → AllByRecursion P xs → list_all test xs ≡ true
test_from_all test P d [] h = refl
test_from_all test P d (x ∷ xs) h = and_from (test x) (list_all test xs) ((d x).1 h.0) (test_from_all test P d xs h.1)

pub all_weaker : {E : Type 0} (P Q : E → Type 0) → ((x : E) → P x → Q x) → (xs : List E) → AllByRecursion P xs → AllByRecursion Q xs
all_weaker P Q f [] h = tt
all_weaker P Q f (x ∷ xs) h = (f x h.0, all_weaker P Q f xs h.1)

pub all_both : {E : Type 0} (P Q R : E → Type 0) → ((x : E) → P x → Q x → R x) → (xs : List E) → AllByRecursion P xs → AllByRecursion Q xs → AllByRecursion R xs
all_both P Q R f [] p q = tt
all_both P Q R f (x ∷ xs) p q = (f x p.0 q.0, all_both P Q R f xs p.1 q.1)
